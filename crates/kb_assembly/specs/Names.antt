-- What the operands of instructions are called.
use Rattle.std.specs.Prelude.{ℕ, ◌+◌, ◌-◌, ◌*◌, Bool, true, false, not, nat_lt, ◌==◌, ◌&&◌, if◌then◌else◌}
use Rattle.std.specs.Prelude.{List, [], ◌∷◌, length, Option, Some, None, option_map, option_and_then, find}
use Rattle.std.specs.Prelude.{bytes_eq}
use Rattle.std.specs.Prelude.{slice_get, decimal, is_some}
use Rattle.std.specs.List.{list_all}
use Rattle.kb_assembly.specs.declared.fault.Mistake.{Mistake}
use Rattle.kb_assembly.specs.declared.fault.Mistake.TheVariants.{TooMany, UnknownName}
use Rattle.kb_assembly.specs.declared.mnemonic.Space.{Space}
use Rattle.kb_assembly.specs.declared.mnemonic.Space.TheVariants as space
use Rattle.kb_assembly.specs.declared.table.Label.{Label}
use Rattle.kb_assembly.specs.declared.names.Names.{Names}
use Rattle.kb_assembly.specs.Places.{place_in}
use Rattle.kb_assembly.specs.Words.{is_plain}

-- the value of digits, the first number being what is before them
abbrev pub read_on : ℕ → List ℕ → ℕ
read_on n [] = n
read_on n (c ∷ cs) = read_on (10 * n + (c - 48)) cs

-- a number of 16 bits whose decimal form is the text
abbrev pub spelled_by : List ℕ → ℕ → Option ℕ
spelled_by text n = if nat_lt n 65536 && bytes_eq (decimal n) text then Some n else None

abbrev pub number_in : List ℕ → Option ℕ
number_in text = spelled_by text (read_on 0 text)

-- the same of a number of 32 bits
abbrev pub wide_by : List ℕ → ℕ → Option ℕ
wide_by text n = if nat_lt n 4294967296 && bytes_eq (decimal n) text then Some n else None

abbrev pub wide_in : List ℕ → Option ℕ
wide_in text = wide_by text (read_on 0 text)

-- what is behind a `#`
abbrev pub after_hash : List ℕ → Option (List ℕ)
after_hash [] = None
after_hash (b ∷ bs) = if b == 35 then Some bs else None

-- a name that may stand without quotes
abbrev pub is_bare : List ℕ → Bool
is_bare name = not (length name == 0) && list_all is_plain name && not (is_some (after_hash name))

abbrev pub needs_quotes : Space → Bool
needs_quotes space.Texts = true
needs_quotes _ = false

-- the first label with a name
abbrev pub label_named : List Label → List ℕ → Option Label
label_named labels name = find (λ label. bytes_eq label.name name) labels

-- the name of the label that is made for a place: `L` and the place
abbrev pub label_name : ℕ → List ℕ
label_name place = 76 ∷ decimal place

abbrev pub short : Option ℕ → Option ℕ
short None = None
short (Some n) = if nat_lt n 65536 then Some n else None

-- the number that a name stands for
abbrev pub found : Names → Space → List ℕ → Option ℕ
found names space.Texts name = place_in 0 names.texts name
found names space.Keys name = place_in 0 names.texts name
found names space.Calls name = place_in 0 names.calls name
found names space.Params name = place_in 0 names.params name
found names space.Labels name = option_map (λ label. label.place) (label_named names.labels name)
found names _ name = None

-- why a name stands for no operand: nothing has it, or its number is too large
abbrev pub lack : Option ℕ → Mistake
lack None = UnknownName
lack (Some n) = TooMany

-- a name at a number
abbrev pub name_in : Names → Space → ℕ → Option (List ℕ)
name_in names space.Texts n = slice_get names.texts n
name_in names space.Keys n = slice_get names.texts n
name_in names space.Calls n = slice_get names.calls n
name_in names space.Params n = slice_get names.params n
name_in names space.Labels n = option_map (λ label. label.name) (label_named names.labels (label_name n))
name_in names _ n = None

abbrev pub is_number : Option ℕ → ℕ → Bool
is_number None n = false
is_number (Some m) n = m == n

-- the same, if it stands for that number
abbrev pub chosen : Names → Space → ℕ → Option (List ℕ)
chosen names kind n =
    option_and_then (λ name. if is_number (short (found names kind name)) n then Some name else None)
    (name_in names kind n)
