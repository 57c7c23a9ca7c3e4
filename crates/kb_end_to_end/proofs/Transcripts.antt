-- Why a load, and a script over memory, fail in a session that was just loaded.
use Rattle.std.proofs.Common.{◌≡◌, ap, false, List, ℕ}
use Rattle.std.specs.Prelude.{Option, Some, Result, Err}
use Rattle.kb_base.specs.declared.failure.Failure.{Failure}
use Rattle.kb_base.specs.declared.failure.Failure.TheVariants.{Fault, NoMemory}
use Rattle.kb_files.specs.declared.fault.LoadFault.{LoadFault}
use Rattle.kb_core.specs.declared.native.Native.{Native}
use Rattle.kb_end_to_end.specs.Transcript.{FailsToRun, FailsToGive, of_load, of_script}
use Rattle.kb_script.specs.ScriptRun.{Answers, Fails}
use Rattle.kb_script.proofs.SafeScripts.{memory_alone_stops}
use Rattle.kb_script.specs.Shelf.{Stand}
use Rattle.kb_script.specs.declared.fault.ScriptFault.{ScriptFault}
use Rattle.kb_script.specs.declared.fault.ScriptFault.TheVariants as script
use Rattle.kb_files.specs.Inputs.{Files}
use Rattle.kb_session.specs.Session.{IsOf, Loads}
use Rattle.kb_session.specs.State.{IsSafe, State}
use Rattle.kb_stream.specs.Fold.{Traced}

-- a session that was just loaded isn't stopped
pub loaded_runs : (files : Files) (natives : List Native) (session : Traced State) → IsOf files natives session
    → session.state.stopped ≡ false
loaded_runs files natives session is = ap (λ (s : Traced State). s.state.stopped) is.is

pub fails_to_run : (fault : ScriptFault) (text : List ℕ) (left : Option (List ℕ)) (old new : Traced Stand)
    (before after : Option (List ℕ)) → old.state.state.stopped ≡ false → IsSafe old.state.state
    → Fails (Fault fault) (Some text) left old new before after → FailsToRun fault text
fails_to_run script.Stopped text left old new before after running safe fails =
    memory_alone_stops (Err (Fault script.Stopped)) (Some text) left old new before after running safe fails
fails_to_run script.TooLong text left old new before after running safe fails = fails.reader
fails_to_run script.ReadFailed text left old new before after running safe fails = tt
fails_to_run script.WriteFailed text left old new before after running safe fails = tt
fails_to_run script.Trapped text left old new before after running safe fails =
    memory_alone_stops (Err (Fault script.Trapped)) (Some text) left old new before after running safe fails

-- the same for the result of the script
pub answered_failure : (files : Files) (natives : List Native) (ran : Result (Unit {0}) (Failure ScriptFault))
    (failure : Failure ScriptFault) (text : List ℕ) (left : Option (List ℕ)) (old new : Traced Stand)
    (before after : Option (List ℕ)) → ran ≡ Err failure → old.state.state.stopped ≡ false → IsSafe old.state.state
    → Answers ran (Some text) left old new before after → FailsToGive files natives text (of_script failure)
answered_failure files natives ran NoMemory text left old new before after is running safe answers = tt
answered_failure files natives ran (Fault fault) text left old new before after is running safe answers =
    fails_to_run fault text left old new before after running safe (rw is at answers)

pub load_fails : (files : Files) (natives : List Native) (text : List ℕ) (failure : Failure LoadFault)
    → Loads files natives (Err failure) → FailsToGive files natives text (of_load failure)
load_fails files natives text NoMemory fails = tt
load_fails files natives text (Fault fault) fails = fails
