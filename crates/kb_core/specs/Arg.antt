-- Kinds of arguments, their empty values, and arguments as values of context keys.
use Rattle.std.specs.Prelude.{Bool, true, false, [], pos}
use Rattle.kb_context.specs.declared.value.ContextValue.{ContextValue}
use Rattle.kb_context.specs.declared.value.ContextValue.TheVariants as value
use Rattle.kb_core.specs.declared.arg.Arg.{Arg}
use Rattle.kb_core.specs.declared.arg.Arg.TheVariants.{Text, Number, Truth}
use Rattle.kb_core.specs.declared.arg.Kind.{Kind}
use Rattle.kb_core.specs.declared.arg.Kind.TheVariants as kind

-- a kind accepts only its own arguments, and `Any` accepts all
abbrev pub is_of : Kind → Arg → Bool
is_of kind.Any arg = true
is_of kind.Text (Text text) = true
is_of kind.Text (Number number) = false
is_of kind.Text (Truth truth) = false
is_of kind.Number (Text text) = false
is_of kind.Number (Number number) = true
is_of kind.Number (Truth truth) = false
is_of kind.Truth (Text text) = false
is_of kind.Truth (Number number) = false
is_of kind.Truth (Truth truth) = true

-- the argument for a parameter if no value is given
abbrev pub empty_of : Kind → Arg
empty_of kind.Text = Text []
empty_of kind.Number = Number (pos 0)
empty_of kind.Truth = Truth false
empty_of kind.Any = Truth false

-- an argument as the value of a context key
abbrev pub context_value : Arg → ContextValue
context_value (Text text) = value.Text text
context_value (Number number) = value.Number number
context_value (Truth truth) = value.Truth truth
