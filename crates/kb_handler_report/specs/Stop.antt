-- The exit status of a check.
use Rattle.std.specs.Prelude.{ℕ, Bool, true, false, Result, Ok, Err}
use Rattle.kb_handler_report.specs.declared.stop.Stop.{Stop}
use Rattle.kb_handler_report.specs.declared.stop.Stop.TheVariants.{CannotRead, Refused, TooMany}
use Rattle.kb_handler_report.specs.declared.stop.Stop.TheVariants.{NoMemory, NotWritten}

-- the status, by whether all handlers are accepted, or why the check stopped
abbrev pub status_of : Result Bool Stop → ℕ
status_of (Ok true) = 0
status_of (Ok false) = 1
status_of (Err (CannotRead path)) = 3
status_of (Err (Refused path kind)) = 3
status_of (Err TooMany) = 3
status_of (Err NoMemory) = 4
status_of (Err NotWritten) = 4

-- memory was refused, or a write failed
abbrev pub IsOfWriting : Stop → Type 0
IsOfWriting NoMemory = Unit {0}
IsOfWriting NotWritten = Unit {0}
IsOfWriting stop = ⊥
