-- The kinds of the faults of encoded code.
use Rattle.kb_base.specs.declared.fault.FaultKind.{FaultKind}
use Rattle.kb_base.specs.declared.fault.FaultKind.TheVariants as kind
use Rattle.kb_code.specs.declared.fault.CodeFault.{CodeFault}
use Rattle.kb_code.specs.declared.fault.CodeFault.TheVariants.{BadLength, BadOpcode, BadOperand, BadBlock}

abbrev pub kind_of : CodeFault → FaultKind
kind_of BadLength = kind.BadLength
kind_of (BadOpcode place) = kind.BadOpcode
kind_of (BadOperand place) = kind.BadOperand
kind_of (BadBlock place) = kind.BadBlock
