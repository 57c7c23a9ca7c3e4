-- What an event leaves of a session, from what the session's own call leaves.
use Rattle.std.proofs.Common.{◌≡◌, ◌∙◌, ap, sym, []}
use Rattle.kb_engine.specs.Running.{HaltsFrom, outcome_by, outcome_for, outcome_of, untraced}
use Rattle.kb_engine.specs.Values.{RunningData}
use Rattle.kb_engine.specs.declared.outcome.Outcome.{Outcome}
use Rattle.kb_execute.specs.declared.start.Finish.{Finish}
use Rattle.kb_session.proofs.Runs.{halts_at}
use Rattle.kb_session.specs.Inspect.{finish_of}
use Rattle.kb_session.specs.Session.{FailsAt, Seen, Takes, half_done, halt}
use Rattle.kb_session.specs.State.{happens}
use Rattle.kb_session.specs.declared.fault.SessionFault.TheVariants as fault
use Rattle.kb_trace.specs.declared.event.Answer.TheVariants as answer
use Rattle.kb_trace.specs.declared.event.Event.{Event}

-- a command ended, or none started
pub did_end : (e : Event) (old new : Seen) (f g : Finish) (o : Outcome) → Takes (happens e) old answer.Did new
    → f ≡ finish_of e old.state → f ≡ g → outcome_for g ≡ o → outcome_of e old.state ≡ o
did_end e old new f g o takes is same out =
    ap (λ a. outcome_by a (finish_of e old.state)) takes.1 ∙ ap outcome_for (sym is ∙ same) ∙ out

-- memory was refused to an event
pub fails_from : (e : Event) (old new : RunningData)
    → FailsAt fault.NoMemory (happens e) (untraced old.session) new.session → new.shelf ≡ old.shelf
    → new.number ≡ old.number → HaltsFrom old new
fails_from e old new fails shelf number =
    let h = halts_at (happens e) (untraced old.session) new.session fails.1 in (h.0, h.1, shelf, number)

-- the session is stopped
pub stops_from : (old new : RunningData) → new.session ≡ halt (untraced old.session)
    → new.shelf ≡ old.shelf → new.number ≡ old.number → HaltsFrom old new
stops_from old new is shelf number = (
  ap (λ s. s.state) is ∙ ap (λ s. half_done s.state.core s.state.pressed old.session.state) (sym is),
  ap (λ s. s.trace) is,
  shelf,
  number,
)

pub ruleset telling = (did_end, fails_from, stops_from)
