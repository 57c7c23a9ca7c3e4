-- The headline holds of each run with verified handlers.
use Rattle.std.proofs.Common.{sym, ap, subst, inr, Bool, true, false, List, ℕ}
use Rattle.std.specs.Prelude.{Option, Result, Ok, Err}
use Rattle.kb_base.specs.declared.failure.Failure.{Failure}
use Rattle.kb_base.specs.declared.failure.Failure.TheVariants.{NoMemory, Fault}
use Rattle.kb_files.specs.Inputs.{Files}
use Rattle.kb_bindings.specs.Load.{MarksAreRight}
use Rattle.kb_bindings.specs.Warning.{warnings_of}
use Rattle.kb_core.specs.declared.native.Native.{Native}
use Rattle.kb_run.specs.ExitStatus.{script_stop}
use Rattle.kb_run.specs.Voice.{Says}
use Rattle.kb_run.specs.declared.outcome.Stop.{Stop}
use Rattle.kb_run.specs.Headline.{IsSound, KeepsHeadline, MemoryAloneStops}
use Rattle.kb_run.proofs.RunLemmas.{session_loaded}
use Rattle.kb_run.specs.Run.{Hosted, LoadsBy, Outputs, PlaysAny, Runs, warning_text}
use Rattle.kb_run.specs.declared.setup.Verification.{Verification}
use Rattle.kb_run.specs.declared.setup.Verification.TheVariants.{Verified, Raw}
use Rattle.kb_script.proofs.SafeScripts.{memory_alone_stops}
use Rattle.kb_script.specs.Headline as script
use Rattle.kb_script.specs.Shelf.{beside}
use Rattle.kb_script.specs.declared.fault.ScriptFault.{ScriptFault}
use Rattle.kb_script.specs.declared.fault.ScriptFault.TheVariants as fault
use Rattle.kb_session.proofs.Headlines.{headline_holds}
use Rattle.kb_session.specs.Session.{IsOf, with_rule_lines}
use Rattle.kb_session.specs.State.{IsSafe, State}
use Rattle.kb_stream.specs.Fold.{Traced}

-- a session that was just loaded isn't stopped
pub is_sound : (files : Files) (natives : List Native) (session : Traced State) → IsOf files natives session
    → IsSafe session.state → IsSound Verified session.state
is_sound files natives session is safe = (ap (λ (s : Traced State). s.state.stopped) is.is, safe)

-- the end of a run, by the result of its script
ends : (ran : Result (Unit {0}) (Failure ScriptFault)) (is_flushed : Bool) → script.MemoryAloneStops ran
    → MemoryAloneStops (script_stop ran is_flushed)
ends (Ok done) true alone = tt
ends (Ok done) false alone = tt
ends (Err NoMemory) true alone = tt
ends (Err NoMemory) false alone = tt
ends (Err (Fault fault.TooLong)) is_flushed alone = tt
ends (Err (Fault fault.ReadFailed)) is_flushed alone = tt
ends (Err (Fault fault.WriteFailed)) is_flushed alone = tt
ends (Err (Fault fault.Stopped)) is_flushed alone = absurd alone
ends (Err (Fault fault.Trapped)) is_flushed alone = absurd alone

pub keeps_headline : (verification : Verification) (session : Traced State) (shelf : List Native)
    (bytes : Option (List ℕ)) (had has : Option (List ℕ)) (end : Result (Unit {0}) Stop)
    → IsSound verification session.state → PlaysAny bytes (beside session shelf) had has end
    → KeepsHeadline verification session.state end
keeps_headline Verified session shelf bytes had has end sound plays =
    let p = plays.1 in (
      headline_holds session.state sound.0 sound.1,
      subst MemoryAloneStops (sym p.end_is)
          (ends p.ran p.is_flushed (memory_alone_stops p.ran bytes plays.0 (beside session shelf) p.new had p.written
          sound.0 sound.1 p.answers)),
    )
keeps_headline Raw session shelf bytes had has end sound plays = tt

-- whether lines of a script add rules changes nothing in that
still_sound : (verification : Verification) (taken : Bool) (session : Traced State)
    → IsSound verification session.state → IsSound verification (with_rule_lines taken session).state
still_sound Verified taken session sound = sound
still_sound Raw taken session sound = tt

-- a session was loaded, its warnings were said, and the script was run
pub run_played : (verification : Verification) (files : Files) (host : Hosted) (bytes : Option (List ℕ))
    (o : Outputs) (end : Result (Unit {0}) Stop) (session : Traced State)
    → LoadsBy verification files host.natives (Ok session) → IsSound verification session.state
    → MarksAreRight files session.state.sources
    → Says o.said_before o.said (warning_text session.state.sources (warnings_of session.state.sources))
    → PlaysAny bytes (beside (with_rule_lines host.takes_rules session) host.shelf) o.had o.has end
    → Runs verification files host bytes o end
run_played verification files host bytes o end session loads sound marked warned plays = inr (record {
  session = session;
  loaded_is = session_loaded verification files host.natives session loads;
  marked = marked;
  warned = warned;
  plays = plays;
  headline = keeps_headline verification (with_rule_lines host.takes_rules session) host.shelf bytes o.had o.has end
      (still_sound verification host.takes_rules session sound) plays;
})
