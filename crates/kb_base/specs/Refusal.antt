-- Refusals, by their faults.
use Rattle.std.specs.Prelude.{None, Result, Ok, Err}
use Rattle.kb_base.specs.declared.fault.FaultKind.{FaultKind}
use Rattle.kb_base.specs.declared.failure.Failure.{Failure}
use Rattle.kb_base.specs.declared.failure.Failure.TheVariants.{NoMemory, Fault}
use Rattle.kb_base.specs.declared.refusal.Refusal.{Refusal}

-- the refusal without a detail
abbrev pub refused_for : FaultKind → Refusal
refused_for kind = record { kind = kind; detail = None }

-- the same result, with its fault as a refusal for the fault's kind
abbrev pub refusing : {F X : Type 0} → (F → FaultKind) → Result X F → Result X Refusal
refusing kind_of (Ok x) = Ok x
refusing kind_of (Err fault) = Err (refused_for (kind_of fault))

-- the same of a failure
abbrev pub refusing_failure : {F : Type 0} → (F → FaultKind) → Failure F → Failure Refusal
refusing_failure kind_of NoMemory = NoMemory
refusing_failure kind_of (Fault fault) = Fault (refused_for (kind_of fault))
