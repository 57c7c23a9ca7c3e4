-- The items of a list and the members of an object: parts of a text that only separators part.
use Rattle.std.specs.Prelude.{◌≡◌, ◌≤◌, ◌<◌, ℕ, ◌+◌, ◌==◌, List, [], ◌∷◌, length, drop, nat_le, nat_lt}
use Rattle.std.specs.Prelude.{slice_index}
use Rattle.std.specs.Prelude.{Bool, true, false, not, ◌&&◌, ◌||◌, ◌++◌, if◌then◌else◌}
use Rattle.std.specs.Prelude.{Option, Some, None, option_and_then}
use Rattle.std.specs.List.{list_any}
use Rattle.std.specs.Str.{bytes_eq, is_utf8}
use Rattle.serde_json.specs.Find.{as_str}
use Rattle.serde_json.specs.Read.{read}
use Rattle.kb_base.specs.Blank.{is_blank}
use Rattle.kb_jsonc.specs.Pieces.{string_len}
use Rattle.kb_places.specs.Place.{part_of}
use Rattle.kb_places.specs.declared.children.Member.{Member}
use Rattle.kb_places.specs.declared.span.Span.{Span}

-- a blank or a sign
abbrev pub is_separator : ℕ → ℕ → Bool
is_separator sign byte = is_blank byte || byte == sign

-- nothing but blanks and a sign from an index up to another
abbrev pub IsGap : List ℕ → ℕ → ℕ → ℕ → Type 0
IsGap text sign from to =
    (from ≤ to)
    × ((index : ℕ) → from ≤ index → index < to → is_separator sign (slice_index text index) ≡ true)

-- a closing bracket or a colon
abbrev pub is_closing : ℕ → Bool
is_closing byte = byte == 93 || (byte == 125 || byte == 58)

-- no number and no word goes on with this byte
abbrev pub ends_word : ℕ → Bool
ends_word byte =
    is_separator 44 byte || (is_closing byte || (byte == 91 || (byte == 123 || byte == 34)))

-- where a string ends, of which the first byte behind the quote is at `from`: behind the first quote that no
-- backslash escapes, or at the end of the text
abbrev pub ends_behind : Option ℕ → List ℕ → ℕ → ℕ → Type 0
ends_behind None text from end = length text ≤ end
ends_behind (Some count) text from end = end ≡ from + count

abbrev pub EndsString : List ℕ → ℕ → ℕ → Type 0
EndsString text from end = ends_behind (string_len (drop from text)) text from end

-- a part that is a string ends where the string does
abbrev pub EndsItem : List ℕ → Span → Type 0
EndsItem text part =
    part.begin < length text → slice_index text part.begin ≡ 34 → EndsString text (part.begin + 1) part.end

-- a part that begins with no separator stands behind nothing but separators; a string ends where it should
abbrev pub IsNext : List ℕ → ℕ → Span → Type 0
IsNext text from part =
    IsGap text 44 from part.begin × (is_separator 44 (slice_index text part.begin) ≡ false)
    × (part.begin < part.end) × EndsItem text part

-- items in turn, with nothing but blanks and commas before, between and behind them
abbrev pub AreInTurn : List ℕ → ℕ → List Span → ℕ → Type 0
AreInTurn text from [] to = IsGap text 44 from to
AreInTurn text from (item ∷ items) to = IsNext text from item × AreInTurn text item.end items to

-- nothing more of a part stands at an index: the part or the text ends there, or a closing bracket does
abbrev pub is_end_of : List ℕ → Span → ℕ → Bool
is_end_of text part index =
    nat_le part.end index || (nat_le (length text) index || is_closing (slice_index text index))

-- nothing is left out between an opening bracket and the end
pub record AreItems (text : List ℕ) (list : Span) (items : List Span) : Type 0 where
  pub end : ℕ
  pub in_turn : AreInTurn text (list.begin + 1) items end
  pub ends : is_end_of text list end ≡ true

-- a name begins at an index
abbrev pub begins_name : List ℕ → ℕ → Bool
begins_name text index = nat_lt index (length text) && slice_index text index == 34

-- a member stands behind nothing but separators, and its value behind its name and nothing but blanks and a
-- colon
pub record IsNextMember (text : List ℕ) (from : ℕ) (member : Member) : Type 0 where
  pub before : IsGap text 44 from member.name.begin
  pub begins : begins_name text member.name.begin ≡ true
  pub ends : EndsString text (member.name.begin + 1) member.name.end
  pub between : IsGap text 58 member.name.end member.value.begin
  pub value : EndsItem text member.value

-- members in turn, with nothing but blanks and commas before, between and behind them
abbrev pub AreMembersInTurn : List ℕ → ℕ → List Member → ℕ → Type 0
AreMembersInTurn text from [] to = IsGap text 44 from to
AreMembersInTurn text from (member ∷ members) to =
    IsNextMember text from member × AreMembersInTurn text member.value.end members to

-- no name is left out between an opening bracket and the end
pub record AreMembers (text : List ℕ) (object : Span) (members : List Member) : Type 0 where
  pub end : ℕ
  pub in_turn : AreMembersInTurn text (object.begin + 1) members end
  pub ends : nat_le object.end end || not (begins_name text end) ≡ true

-- ---- a whole text

-- a part begins with the first byte that isn't blank
pub record IsWhole (text : List ℕ) (part : Span) : Type 0 where
  pub before : IsGap text 32 0 part.begin
  pub begins : part.begin < length text → is_blank (slice_index text part.begin) ≡ false

-- ---- names

-- a text is this name
abbrev pub says : List ℕ → Option (List ℕ) → Bool
says name None = false
says name (Some text) = bytes_eq text name

-- a text is a string of JSON that is read as this name
abbrev pub reads_as : List ℕ → List ℕ → Bool
reads_as name text = is_utf8 text && says name (option_and_then as_str (read text))

-- a name with its quotes is this one: byte by byte, or by what is read where an escape is in it
abbrev pub is_name : List ℕ → List ℕ → Bool
is_name name quoted =
    if list_any (λ b. b == 92) quoted then reads_as name quoted else bytes_eq quoted (34 ∷ name ++ 34 ∷ [])

abbrev pub has_name : List ℕ → List ℕ → Member → Bool
has_name text name member = is_name name (part_of text member.name)

-- ---- for private functions

-- a part of a text begins with a bracket
abbrev pub opens : ℕ → List ℕ → Span → Bool
opens bracket text part =
    nat_lt part.begin part.end && (nat_le part.end (length text) && slice_index text part.begin == bracket)
