-- The trace line of a call.
use Rattle.std.specs.Prelude.{ℕ, List, [], ◌∷◌, ◌++◌, map, codes}
use Rattle.std.specs.Fmt.{signed_decimal}
use Rattle.json.specs.Print.{print}
use Rattle.json.specs.Token.{Token, begin_array, end_array, string, number, boolean}
use Rattle.kb_core.specs.declared.arg.Arg.{Arg}
use Rattle.kb_core.specs.declared.arg.Arg.TheVariants.{Text, Number, Truth}

-- an argument as JSON
abbrev pub token_of : Arg → Token
token_of (Text text) = string text
token_of (Number n) = number (signed_decimal n)
token_of (Truth truth) = boolean truth

abbrev pub list_tokens : List Arg → List Token
list_tokens args = begin_array ∷ (map token_of args ++ end_array ∷ [])

-- arguments as a JSON list without spaces
unfoldable pub list_text : List Arg → List ℕ
list_text args = print (list_tokens args)

-- for example: call type ["hi"]
abbrev pub call_line : List ℕ → List Arg → List ℕ
call_line name args = codes "call " ++ (name ++ (codes " " ++ list_text args))
