use Rattle.std.proofs.Common.{◌∙◌, ap, subst, sym}
use Rattle.std.specs.Prelude.{option_map}
use Rattle.kb_engine.specs.Taken.{TakesBy}
use Rattle.kb_engine.specs.Taken.{Completes, TakesSaid, prepared_line}
use Rattle.kb_engine.specs.declared.taken.Taken.{Taken}
use Rattle.kb_engine.proofs.TellingLemmas.{said_taken}
use Rattle.kb_script.specs.ScriptLine.{said_by}
use Rattle.kb_session.specs.Session.{Seen}
use Rattle.kb_engine.proofs.telling.tell_said_noted.Goals as goal

pub returns-in-Ok-completed-clause-taken : goal.returns-in-Ok-completed-clause-taken
returns-in-Ok-completed-clause-taken c =
    let told = c.tell_said-outcome in
    let said = option_map said_by c.args.said in
    let before = c.in-Ok.before in
    let taken = c.in-Ok-completed.taken in
    subst (λ (t : Taken). TakesBy (TakesSaid said c.args.running.now.session.state) told.result.0 t)
    (sym c.taken_behind.ensures)
    (said_taken said c.args.running.now told.new.self told.result.1 told.result.0 before taken
    told.ensures.told told.ensures.found
    (c.in-Ok.ensures ∙ ap (λ (s : Seen). prepared_line said s.state) c.session.ensures)
    (subst (λ (s : Seen). Completes s.state told.result.1 before taken) c.session-2.ensures
    c.in-Ok-completed.ensures.taken))
