-- Comparison operators of clauses.
use Rattle.std.specs.Prelude.{ℤ, Bool, true, false, not, int_lt}
use Rattle.kb_when.specs.declared.operator.Operator.{Operator}
use Rattle.kb_when.specs.declared.operator.Operator.TheVariants.{Below, AtMost, Above, AtLeast}

abbrev pub compared : Operator → ℤ → ℤ → Bool
compared Below left right = int_lt left right
compared AtMost left right = not (int_lt right left)
compared Above left right = int_lt right left
compared AtLeast left right = not (int_lt left right)

-- whether both are the same operator
abbrev pub operator_eq : Operator → Operator → Bool
operator_eq Below Below = true
operator_eq AtMost AtMost = true
operator_eq Above Above = true
operator_eq AtLeast AtLeast = true
operator_eq Below _ = false
operator_eq AtMost _ = false
operator_eq Above _ = false
operator_eq AtLeast _ = false
