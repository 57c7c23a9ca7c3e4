-- A script in a running session whose handlers are verified is stopped by refused memory alone.
use Rattle.std.proofs.Common.{◌≡◌, ◌∙◌, sym, ap, subst, true, false, List, [], ◌∷◌, ℕ}
use Rattle.std.specs.Prelude.{Option, Ok, Err}
use Rattle.kb_base.specs.declared.failure.Failure.TheVariants.{NoMemory, Fault}
use Rattle.kb_script.specs.Headline.{IsOfStreams, MemoryAloneStopsScripts}
use Rattle.kb_script.specs.ScriptRun.{Fails}
use Rattle.kb_script.specs.Shelf.{Said, Stand, move, move_unless, told_by}
use Rattle.kb_script.specs.declared.fault.ScriptFault.{ScriptFault}
use Rattle.kb_script.specs.declared.fault.ScriptFault.TheVariants as script
use Rattle.kb_session.proofs.Sound.{runs_on}
use Rattle.kb_session.specs.State.{IsSafe}
use Rattle.kb_stream.specs.Fold.{Traced, fold}

-- no line of a script stops it, since no verified handler traps
moves_on : (said : Said) (s : Stand) → s.state.stopped ≡ false → IsSafe s.state
    → ((move said s).state.state.stopped ≡ false) × IsSafe (move said s).state.state
moves_on said s running safe =
    subst
    (λ b. ((move_unless b said s).state.state.stopped ≡ false) × IsSafe (move_unless b said s).state.state)
    (sym running) (runs_on (told_by said s.shelf) s.state running safe)

folds_on : (said : List Said) (s : Stand) → s.state.stopped ≡ false → IsSafe s.state
    → (fold move said s).state.state.stopped ≡ false
folds_on [] s running safe = running
folds_on (x ∷ xs) s running safe =
    let p = moves_on x s running safe in folds_on xs (move x s).state p.0 p.1

apart : false ≡ true → ⊥
apart e = cc

of_streams : (fault : ScriptFault) (had left : Option (List ℕ)) (old new : Traced Stand)
    (before after : Option (List ℕ)) → old.state.state.stopped ≡ false → IsSafe old.state.state
    → Fails (Fault fault) had left old new before after → IsOfStreams fault
of_streams script.TooLong had left old new before after running safe fails = tt
of_streams script.ReadFailed had left old new before after running safe fails = tt
of_streams script.WriteFailed had left old new before after running safe fails = tt
of_streams script.Stopped had left old new before after running safe fails =
    apart (sym running ∙ fails.stopped)
of_streams script.Trapped had left old new before after running safe fails =
    apart (sym (folds_on fails.said old.state running safe)
    ∙ sym (ap (λ (s : Traced Stand). s.state.state.stopped) fails.ran.session) ∙ fails.stopped)

-- so says what a run of a script answers
pub memory_alone_stops : MemoryAloneStopsScripts
memory_alone_stops (Ok done) had left old new before after running safe answers = tt
memory_alone_stops (Err NoMemory) had left old new before after running safe answers = tt
memory_alone_stops (Err (Fault fault)) had left old new before after running safe answers =
    of_streams fault had left old new before after running safe answers
