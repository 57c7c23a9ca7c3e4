-- The operations on values.
use Rattle.std.specs.Prelude.{ℕ, List, [], ◌∷◌, ◌++◌, Bool, true, false, not, length, min}
use Rattle.std.specs.Prelude.{◌^◌, ◌-◌, Option, Some, None, codes}
use Rattle.std.specs.Prelude.{bytes_eq, ℤ, pos, ◌+ℤ◌, ◌-ℤ◌, int_lt}
use Rattle.std.specs.Fmt.{signed_decimal}
use Rattle.std.specs.Int.{saturate_signed, w64}
use Rattle.std.specs.Ordering.{int_eq}
use Rattle.std.specs.Str.{chars}
use Rattle.kb_context.specs.declared.value.ContextValue.{ContextValue}
use Rattle.kb_context.specs.declared.value.ContextValue.TheVariants as value
use Rattle.kb_core.specs.declared.arg.Arg.{Arg}
use Rattle.kb_core.specs.declared.arg.Arg.TheVariants.{Text, Number, Truth}
use Rattle.kb_vm.specs.declared.values.One.{One}
use Rattle.kb_vm.specs.declared.values.One.TheVariants.{Not, Show, Size, IsTrue, AsNumber}
use Rattle.kb_vm.specs.declared.values.Two.{Two}
use Rattle.kb_vm.specs.declared.values.Two.TheVariants.{Add, Sub, Less, Same, Join}

-- the number of characters of a text, saturating at the largest number of 64 signed bits; a character
-- is a Unicode scalar value
unfoldable pub size_of : List ℕ → ℕ
size_of text = min (length (chars text)) (2 ^ 63 - 1)

-- a whole number, saturating at the ends of 64 signed bits
abbrev pub held : ℤ → ℤ
held n = saturate_signed w64 n

abbrev pub shown : Arg → List ℕ
shown (Text text) = text
shown (Number n) = signed_decimal n
shown (Truth true) = codes "true"
shown (Truth false) = codes "false"

-- whether a value is neither false, nor 0, nor the empty text
abbrev pub is_true : Arg → Bool
is_true (Text []) = false
is_true (Text (byte ∷ bytes)) = true
is_true (Number n) = not (int_eq n (pos 0))
is_true (Truth truth) = truth

-- a number itself, and 0 for any other value
abbrev pub number_in : Arg → ℤ
number_in (Text text) = pos 0
number_in (Number n) = n
number_in (Truth truth) = pos 0

-- the result of an operation on one value, if it accepts the value
abbrev pub one_of : One → Arg → Option Arg
one_of Not (Text text) = None
one_of Not (Number n) = None
one_of Not (Truth truth) = Some (Truth (not truth))
one_of Show x = Some (Text (shown x))
one_of Size (Text text) = Some (Number (pos (size_of text)))
one_of Size (Number n) = None
one_of Size (Truth truth) = None
one_of IsTrue x = Some (Truth (is_true x))
one_of AsNumber x = Some (Number (number_in x))

abbrev pub same_truth : Bool → Bool → Bool
same_truth true y = y
same_truth false y = not y

-- whether both values have the same kind and are equal
abbrev pub is_same : Arg → Arg → Bool
is_same (Text x) (Text y) = bytes_eq x y
is_same (Number x) (Number y) = int_eq x y
is_same (Truth x) (Truth y) = same_truth x y
is_same _ _ = false

-- the result of an operation on two numbers
abbrev pub with_numbers : (ℤ → ℤ → Arg) → Arg → Arg → Option Arg
with_numbers make (Number x) (Number y) = Some (make x y)
with_numbers make _ _ = None

abbrev pub joined : Arg → Arg → Option Arg
joined (Text x) (Text y) = Some (Text (x ++ y))
joined _ _ = None

-- the result of an operation on two values, of which the second is on top, if it accepts them
abbrev pub two_of : Two → Arg → Arg → Option Arg
two_of Add x y = with_numbers (λ m n. Number (held (m +ℤ n))) x y
two_of Sub x y = with_numbers (λ m n. Number (held (m -ℤ n))) x y
two_of Less x y = with_numbers (λ m n. Truth (int_lt m n)) x y
two_of Same x y = Some (Truth (is_same x y))
two_of Join x y = joined x y

-- whether an operation on two values creates a text
abbrev pub joins : Two → Bool
joins Join = true
joins _ = false

-- the value of a context key as an operand: an absent key is false, and a list or an object is true
abbrev pub context_arg : Option ContextValue → Arg
context_arg None = Truth false
context_arg (Some (value.Truth truth)) = Truth truth
context_arg (Some (value.Number n)) = Number n
context_arg (Some (value.Text text)) = Text text
context_arg (Some (value.Texts texts)) = Truth true
context_arg (Some (value.Names names)) = Truth true
