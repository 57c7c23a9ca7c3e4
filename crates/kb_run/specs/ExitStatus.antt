-- The exit status and the line with which a run ends.
use Rattle.std.specs.Prelude.{ℕ, Bool, true, false, List, ◌++◌, Result, Ok, Err}
use Rattle.std.specs.Prelude.{codes}
use Rattle.kb_base.specs.declared.failure.Failure.{Failure}
use Rattle.kb_base.specs.declared.failure.Failure.TheVariants as failure
use Rattle.kb_disk.specs.CannotRead.{path_of}
use Rattle.kb_disk.specs.declared.cannot_read.CannotRead.{CannotRead}
use Rattle.kb_files.specs.Fault.{load_line}
use Rattle.kb_files.specs.declared.fault.LoadFault.{LoadFault}
use Rattle.kb_script.specs.declared.fault.ScriptFault.{ScriptFault}
use Rattle.kb_script.specs.declared.fault.ScriptFault.TheVariants as script
use Rattle.kb_run.specs.declared.outcome.Stop.{Stop}
use Rattle.kb_run.specs.declared.outcome.Stop.TheVariants.{Unread, Load, Script, NoMemory}

-- ---- statuses

abbrev pub stop_status : Stop → ℕ
stop_status (Unread file) = 3
stop_status (Load fault) = 3
stop_status (Script fault) = 4
stop_status NoMemory = 4

abbrev pub status_of : Result (Unit {0}) Stop → ℕ
status_of (Ok done) = 0
status_of (Err stop) = stop_status stop

-- ---- lines

abbrev pub script_line : ScriptFault → List ℕ
script_line script.Stopped = codes "stopped: out of memory"
script_line script.TooLong = codes "script: too long"
script_line script.ReadFailed = codes "script: read failed"
script_line script.WriteFailed = codes "script: write failed"
script_line script.Trapped = codes "stopped: out of memory"

abbrev pub stop_line : Stop → List ℕ
stop_line (Unread file) = codes "cannot read " ++ path_of file
stop_line (Load fault) = load_line fault
stop_line (Script fault) = script_line fault
stop_line NoMemory = codes "stopped: out of memory"

-- ---- why a run stops

abbrev pub read_stop : Failure CannotRead → Stop
read_stop failure.NoMemory = NoMemory
read_stop (failure.Fault file) = Unread file

abbrev pub load_stop : Failure LoadFault → Stop
load_stop failure.NoMemory = NoMemory
load_stop (failure.Fault fault) = Load fault

-- the rest of the trace in the buffer is written after the script: if that fails, a script that ran, that
-- trapped or that was refused memory ends as one whose write failed
abbrev pub script_stop : Result (Unit {0}) (Failure ScriptFault) → Bool → Result (Unit {0}) Stop
script_stop (Ok done) true = Ok tt
script_stop (Ok done) false = Err (Script script.WriteFailed)
script_stop (Err failure.NoMemory) true = Err NoMemory
script_stop (Err failure.NoMemory) false = Err (Script script.WriteFailed)
script_stop (Err (failure.Fault script.Trapped)) false = Err (Script script.WriteFailed)
script_stop (Err (failure.Fault fault)) is_flushed = Err (Script fault)
