-- The strings that are values of members: those behind a name and a colon.
use Rattle.std.specs.Prelude.{ℕ, ◌==◌, ◌&&◌, if◌then◌else◌, List, [], ◌∷◌, ◌++◌, Bool, false, Result, Ok, Err}
use Rattle.std.specs.List.{list_any}
use Rattle.std.specs.Str.{is_utf8}
use Rattle.kb_base.specs.Blank.{is_blank}
use Rattle.kb_jsonc.specs.declared.fault.JsoncFault.{JsoncFault}
use Rattle.kb_jsonc.specs.Text.{plain_text}
use Rattle.kb_places.specs.declared.span.Span.{Span}
use Rattle.kb_exchange.specs.declared.members.Before.{Before}
use Rattle.kb_exchange.specs.declared.members.Before.TheVariants as before
use Rattle.kb_places.specs.Place.{part_of}
use Rattle.kb_exchange.specs.Says.{says}
use Rattle.kb_exchange.specs.Tokens.{Token, string, sign, tokens}

-- a string of a text says one of these names
unfoldable pub is_named : List ℕ → List (List ℕ) → Span → Bool
is_named text names name = list_any (λ n. says n (part_of text name)) names

-- the third of three tokens in a row, if it is the string of a member of such a name
abbrev pub member_value : (Span → Bool) → Token → Token → Token → List Span
member_value named (string name) (sign b) (string value) = if b == 58 && named name then value ∷ [] else []
member_value named one two three = []

-- the strings that are values of members of such names, in order
abbrev pub values_among : (Span → Bool) → List Token → List Span
values_among named [] = []
values_among named (a ∷ []) = []
values_among named (a ∷ b ∷ []) = []
values_among named (a ∷ b ∷ c ∷ ts) = member_value named a b c ++ values_among named (b ∷ c ∷ ts)

-- the same of a text without comments
unfoldable pub values_in : List (List ℕ) → List ℕ → List Span
values_in names text = values_among (is_named text names) (tokens text)

abbrev pub values_of_plain : List (List ℕ) → Result (List ℕ) JsoncFault → List Span
values_of_plain names (Ok plain) = values_in names plain
values_of_plain names (Err fault) = []

-- the same of a file of JSON with comments, none where it is no UTF-8, or has an open comment or string
unfoldable pub values_of : List (List ℕ) → List ℕ → List Span
values_of names file = if is_utf8 file then values_of_plain names (plain_text file) else []

-- ---- for private functions: what the last tokens are tells whether a string is a value

abbrev pub behind_string : Span → ℕ → Before
behind_string name b = if b == 58 then before.Colon name else before.Other

abbrev pub next_before : Before → Token → Before
next_before last (string value) = before.String value
next_before before.Other (sign b) = before.Other
next_before (before.String name) (sign b) = behind_string name b
next_before (before.Colon name) (sign b) = before.Other

abbrev pub behind_byte : Before → ℕ → Before
behind_byte last b = if is_blank b then last else next_before last (sign b)

abbrev pub is_value : (Span → Bool) → Before → Bool
is_value named before.Other = false
is_value named (before.String name) = false
is_value named (before.Colon name) = named name

abbrev pub value_behind : (Span → Bool) → Before → Token → List Span
value_behind named last (sign b) = []
value_behind named last (string value) = if is_value named last then value ∷ [] else []

abbrev pub values_behind : (Span → Bool) → Before → List Token → List Span
values_behind named last [] = []
values_behind named last (t ∷ ts) = value_behind named last t ++ values_behind named (next_before last t) ts
