-- The header of a message: lines up to a blank line. One of them says how many bytes follow.
use Rattle.std.specs.Prelude.{ℕ, suc, ◌-◌, ◌==◌, ◌&&◌, not, Bool, nat_le, nat_eq}
use Rattle.std.specs.Prelude.{if◌then◌else◌, List, [], ◌∷◌, length, take, drop, codes, Option, Some, None}
use Rattle.std.specs.Prelude.{Result, Ok, Err}
use Rattle.std.specs.Char.{is_ascii_digit, is_ascii_whitespace}
use Rattle.std.specs.List.{starts_with, before_first, prefix_len, suffix_len, list_all}
use Rattle.std.specs.Str.{str_eq_ignore_ascii_case}
use Rattle.std.specs.Str.Parse.{digits_value}
use Rattle.kb_messages.specs.declared.fault.FrameFault.{FrameFault}
use Rattle.kb_messages.specs.declared.fault.FrameFault.TheVariants.{NoLength, WrongLength, TooLong}

-- CR LF CR LF: the end of a line, and a blank line
abbrev pub ends_header : List ℕ → Bool
ends_header text = starts_with nat_eq text (13 ∷ 10 ∷ 13 ∷ 10 ∷ [])

-- the index of the first CR LF CR LF, or the length of a text that has none
abbrev pub header_len : List ℕ → ℕ
header_len [] = 0
header_len (b ∷ bs) = if ends_header (b ∷ bs) then 0 else suc (header_len bs)

-- the name in front of a length, in any case
abbrev pub name_begins : List ℕ → Bool
name_begins text = str_eq_ignore_ascii_case (take 15 text) (codes "Content-Length:")

abbrev pub or_here : List ℕ → Option (List ℕ) → Option (List ℕ)
or_here text (Some later) = Some later
or_here text None = if name_begins text then Some (drop 15 text) else None

-- what stands behind the last such name, wherever it stands: behind a body that was cut off, the next header
-- begins in mid-line
abbrev pub value_in : List ℕ → Option (List ℕ)
value_in [] = None
value_in (b ∷ bs) = or_here (b ∷ bs) (value_in bs)

-- without ASCII white space before and behind it
abbrev pub trimmed : List ℕ → List ℕ
trimmed text =
    let begun = drop (prefix_len is_ascii_whitespace text) text in
    take (length begun - suffix_len is_ascii_whitespace begun) begun

abbrev pub is_number : List ℕ → Bool
is_number text = not (nat_eq (length text) 0) && list_all is_ascii_digit text

-- the length that a text says
abbrev pub length_of : List ℕ → Result ℕ FrameFault
length_of text =
    if is_number text
    then (if nat_le (digits_value 10 text) 16777216 then Ok (digits_value 10 text) else Err TooLong)
    else Err WrongLength

abbrev pub length_behind : Option (List ℕ) → Result ℕ FrameFault
length_behind None = Err NoLength
length_behind (Some value) = length_of (trimmed (before_first (λ b. b == 10) value))

-- the length of the body that a header says
abbrev pub body_len : List ℕ → Result ℕ FrameFault
body_len header = length_behind (value_in header)
