-- The meaning of a parsed line.
use Rattle.std.specs.Prelude.{◌≡◌, ⊤, [], Option, Some, None, Result, Ok, Err, MatchResult}
use Rattle.kb_base.specs.declared.failure.Failure.{Failure}
use Rattle.kb_base.specs.declared.failure.Failure.TheVariants.{NoMemory, Fault}
use Rattle.kb_script.specs.declared.script.ScriptLine.{ScriptLine}
use Rattle.kb_script.specs.declared.script.ScriptLine.TheVariants as line
use Rattle.kb_script.specs.Shelf.{Said, tells, takes}
use Rattle.kb_session.specs.State.{happens, reload, dispose, types_rule}
use Rattle.kb_trace.specs.declared.event.Event.TheVariants as event

abbrev pub said_by : ScriptLine → Said
said_by (line.Key key) = tells (happens (event.Key key))
said_by (line.Event event) = tells (happens event)
said_by (line.Set name key value) = tells (happens (event.SetKey name.now key.now value))
said_by (line.Unset name key) = tells (happens (event.UnsetKey name.now key.now))
said_by (line.Reload text) = tells (reload text.now [])
said_by (line.Register native) = takes native
said_by (line.Dispose ticket) = tells (dispose ticket.0)
said_by (line.Update id json) = tells (happens (event.Update id.now json.now))
said_by (line.Rule number key command text) = tells (types_rule number key command.now text.now)

-- the result of reading a value: a fault gives no value, and refused memory is returned
abbrev pub TakesAs : {X F E : Type 0} → Result X (Failure F) → Result (Option X) E → Type 0
TakesAs (Ok value) r = MatchResult r (λ taken. taken ≡ Some value) (λ refused. ⊥)
TakesAs (Err (Fault fault)) r = MatchResult r (λ taken. taken ≡ None) (λ refused. ⊥)
TakesAs (Err NoMemory) r = MatchResult r (λ taken. ⊥) (λ refused. ⊤)
