-- The kind and the place of each fault.
use Rattle.std.specs.Prelude.{ℕ}
use Rattle.kb_base.specs.declared.fault.FaultKind.{FaultKind}
use Rattle.kb_base.specs.declared.fault.FaultKind.TheVariants as kind
use Rattle.kb_verify.specs.declared.fault.Defect.TheVariants as defect
use Rattle.kb_verify.specs.declared.fault.VerifyFault.{VerifyFault}
use Rattle.kb_verify.specs.declared.fault.VerifyFault.TheVariants.{Wrong, OverBudget, OverDepth}

abbrev pub kind_of : VerifyFault → FaultKind
kind_of (Wrong defect.MissingOperand place) = kind.MissingOperand
kind_of (Wrong defect.WrongOperand place) = kind.WrongOperand
kind_of (Wrong defect.UnknownCommand place) = kind.UnknownCommand
kind_of (Wrong defect.WrongArgument place) = kind.WrongArgument
kind_of (Wrong defect.BadJump place) = kind.BadJump
kind_of (Wrong defect.FallsOff place) = kind.FallsOff
kind_of (Wrong defect.ShapesDiffer place) = kind.ShapesDiffer
kind_of (Wrong defect.TooHigh place) = kind.TooHigh
kind_of (OverDepth place) = kind.OverDepth
kind_of (OverBudget path) = kind.OverBudget

abbrev pub place_of : VerifyFault → ℕ
place_of (Wrong wrong place) = place
place_of (OverDepth place) = place
place_of (OverBudget path) = 0
