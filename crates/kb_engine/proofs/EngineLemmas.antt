-- A stop before an event is made is one of the ways in which the event ends.
use Rattle.std.proofs.Common.{◌≡◌, sym, subst}
use Rattle.std.specs.Prelude.{Option, Some, None}
use Rattle.kb_engine.specs.Engine.{Halts, HaltsIn, LosesTaken, TakesOf, Tells, TellsIn}
use Rattle.kb_engine.specs.Running as running
use Rattle.kb_engine.specs.Taken.{Takes, TakesBy}
use Rattle.kb_engine.specs.Values.{EngineData, RunningData}
use Rattle.kb_engine.specs.declared.taken.Taken.{Taken}
use Rattle.kb_engine.specs.declared.outcome.Outcome.{Outcome}
use Rattle.kb_session.specs.State.{State}
use Rattle.kb_trace.specs.declared.event.Event.{Event}

halts_in : (e : Event) (old : Option RunningData) (o : Outcome) (new : Option RunningData) → HaltsIn old o new
    → TellsIn e old o new
halts_in e None o new h = h
halts_in e (Some old) o None h = h
halts_in e (Some old) o (Some new) h = subst (λ (o : Outcome). running.Tells e old o new) (sym h.0) h.1

loses_in : (P : State → Taken → Type 0) (old : EngineData) (r : Option RunningData) (o : Outcome)
    (new : Option RunningData) (t : Taken) → HaltsIn r o new → LosesTaken old r t → TakesOf P old r o t
loses_in P old None o new t h l = l
loses_in P old (Some r) o None t h l = absurd h
loses_in P old (Some r) o (Some n) t h l =
    subst (λ (o : Outcome). TakesBy (P r.session.state) o t) (sym h.0) l

pub halts_told : (e : Event) (old : EngineData) (o : Outcome) (new : EngineData) → Halts old o new
    → Tells e old o new
halts_told e old o new h = (
  halts_in e old.running o new.running h.0,
  loses_in (Takes e) old old.running o new.running new.taken h.0 h.1,
  h.2,
)

pub ruleset halting = (halts_told)
