-- A script in a session whose handlers are verified.
use Rattle.std.specs.Prelude.{◌≡◌, ⊤, ℕ, false, List, Option, Result, Ok, Err}
use Rattle.kb_base.specs.declared.failure.Failure.{Failure}
use Rattle.kb_base.specs.declared.failure.Failure.TheVariants.{NoMemory, Fault}
use Rattle.kb_script.specs.ScriptRun.{Answers}
use Rattle.kb_script.specs.Shelf.{Stand}
use Rattle.kb_script.specs.declared.fault.ScriptFault.{ScriptFault}
use Rattle.kb_script.specs.declared.fault.ScriptFault.TheVariants.{Stopped, TooLong, ReadFailed, WriteFailed}
use Rattle.kb_script.specs.declared.fault.ScriptFault.TheVariants.{Trapped}
use Rattle.kb_session.specs.State.{IsSafe}
use Rattle.kb_stream.specs.Fold.{Traced}

-- the fault is the reader's or the writer's
abbrev pub IsOfStreams : ScriptFault → Type 0
IsOfStreams TooLong = ⊤
IsOfStreams ReadFailed = ⊤
IsOfStreams WriteFailed = ⊤
IsOfStreams Stopped = ⊥
IsOfStreams Trapped = ⊥

-- no handler trapped, and nothing but refused memory stopped the session: the script ran, or its reader or
-- its writer failed, or memory was refused
abbrev pub MemoryAloneStops : Result (Unit {0}) (Failure ScriptFault) → Type 0
MemoryAloneStops (Ok done) = ⊤
MemoryAloneStops (Err NoMemory) = ⊤
MemoryAloneStops (Err (Fault fault)) = IsOfStreams fault

-- so ends each script in a running session that is safe
abbrev pub MemoryAloneStopsScripts : Type 0
MemoryAloneStopsScripts = (ran : Result (Unit {0}) (Failure ScriptFault)) (had left : Option (List ℕ))
    (old new : Traced Stand) (before after : Option (List ℕ)) → old.state.state.stopped ≡ false
    → IsSafe old.state.state → Answers ran had left old new before after → MemoryAloneStops ran
