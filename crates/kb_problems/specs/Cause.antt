-- The fault, the name and the kind of a problem.
use Rattle.std.specs.Prelude.{ℕ, List, Option, Some, None, codes}
use Rattle.kb_base.specs.Fault.{fault_name}
use Rattle.kb_base.specs.declared.fault.FaultKind.{FaultKind}
use Rattle.kb_problems.specs.declared.cause.Cause.{Cause}
use Rattle.kb_problems.specs.declared.cause.Cause.TheVariants.{Refused, Warned, Linted}
use Rattle.kb_problems.specs.Choices.{lint_name}

-- the fault; a lint has none
abbrev pub fault_of : Cause → Option FaultKind
fault_of (Refused file fault) = Some fault
fault_of (Warned warning) = Some warning.kind
fault_of (Linted lint) = None

-- the name of the fault or of the lint
abbrev pub cause_name : Cause → List ℕ
cause_name (Refused file fault) = fault_name fault
cause_name (Warned warning) = fault_name warning.kind
cause_name (Linted lint) = lint_name lint

abbrev pub kind_of : Cause → List ℕ
kind_of (Refused file fault) = codes "refused"
kind_of (Warned warning) = codes "warning"
kind_of (Linted lint) = codes "lint"
