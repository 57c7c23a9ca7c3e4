-- The value of an operand.
use Rattle.kb_core.specs.declared.arg.Arg.{Arg}
use Rattle.kb_core.specs.declared.arg.Arg.TheVariants as arg
use Rattle.kb_vm.specs.declared.operands.Operand.{Operand}
use Rattle.kb_vm.specs.declared.operands.Operand.TheVariants.{Text, Number, Truth}

abbrev pub arg_of : Operand → Arg
arg_of (Text text) = arg.Text text.now
arg_of (Number n) = arg.Number n
arg_of (Truth truth) = arg.Truth truth
