-- The kinds of a session's faults.
use Rattle.std.specs.Prelude.{Result, Ok, Err, alloc_error}
use Rattle.std.specs.declared.alloc.AllocError.{AllocError}
use Rattle.kb_base.specs.declared.fault.FaultKind.{FaultKind}
use Rattle.kb_base.specs.declared.fault.FaultKind.TheVariants as kind
use Rattle.kb_base.specs.declared.failure.Failure.{Failure}
use Rattle.kb_base.specs.declared.failure.Failure.TheVariants.{NoMemory, Fault}
use Rattle.kb_session.specs.declared.fault.SessionFault.{SessionFault}
use Rattle.kb_session.specs.declared.fault.SessionFault.TheVariants as session

-- the fault of a failure, or refused memory
abbrev pub fault_in : {F : Type 0} → Failure F → Result F AllocError
fault_in NoMemory = Err alloc_error
fault_in (Fault fault) = Ok fault

abbrev pub session_kind : SessionFault → FaultKind
session_kind (session.Refused refusal) = refusal.kind
session_kind session.NoMemory = kind.NoMemory
session_kind session.Stopped = kind.Stopped
