-- The kind of each trap.
use Rattle.kb_base.specs.declared.fault.FaultKind.{FaultKind}
use Rattle.kb_base.specs.declared.fault.FaultKind.TheVariants as kind
use Rattle.kb_vm.specs.declared.trap.Trap.{Trap}
use Rattle.kb_vm.specs.declared.trap.Trap.TheVariants.{MissingOperand, UnknownCommand, WrongArgument}
use Rattle.kb_vm.specs.declared.trap.Trap.TheVariants.{OutOfBudget, TooDeep, BadCode}

abbrev pub kind_of : Trap → FaultKind
kind_of MissingOperand = kind.TrapMissingOperand
kind_of UnknownCommand = kind.TrapUnknownCommand
kind_of WrongArgument = kind.TrapWrongArgument
kind_of OutOfBudget = kind.OutOfBudget
kind_of TooDeep = kind.CallTooDeep
kind_of BadCode = kind.BadCode
