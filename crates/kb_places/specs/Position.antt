-- Lines and columns: both are counted from 1, and a column counts characters.
use Rattle.std.specs.Prelude.{◌≡◌, ℕ, ◌+◌, ◌-◌, ◌≤◌, ◌<◌, ◌==◌, ◌&&◌, ◌||◌, Bool, true, false, nat_le}
use Rattle.std.specs.Prelude.{if◌then◌else◌, List, take, slice_index}
use Rattle.std.specs.List.{fold}
use Rattle.kb_places.specs.declared.position.Head.{Head}
use Rattle.kb_places.specs.declared.position.Position.{Position}

-- the first character of the next line, behind CR or not
abbrev pub below : Head → Bool → Head
below head behind_return = record {
  position = record { line = head.position.line + 1; column = 1 };
  behind_return = behind_return;
}

-- the next character of the line
abbrev pub beside : Head → Head
beside head = record {
  position = record { line = head.position.line; column = head.position.column + 1 };
  behind_return = false;
}

-- a byte inside a character, behind its first one
abbrev pub is_inside : ℕ → Bool
is_inside byte = nat_le 128 byte && nat_le byte 191

-- the place behind a line feed: that of CR LF ends no second line
abbrev pub behind_feed : Head → Head
behind_feed head =
    if head.behind_return then record { position = head.position; behind_return = false }
    else below head false

-- the place behind a byte: a line ends with LF, CR LF or CR alone
abbrev pub behind : Head → ℕ → Head
behind head byte =
    if byte == 10 then behind_feed head
    else if byte == 13 then below head true
    else if is_inside byte then head
    else beside head

abbrev pub begin : Head
begin = record { position = record { line = 1; column = 1 }; behind_return = false }

-- the place behind so many bytes
unfoldable pub head_at : List ℕ → ℕ → Head
head_at text index = fold behind begin (take index text)

abbrev pub position_of : List ℕ → ℕ → Position
position_of text index = (head_at text index).position

-- a byte behind which a line begins: LF or CR
abbrev pub ends_line : ℕ → Bool
ends_line byte = byte == 10 || byte == 13

-- a line of a text begins at an index, and what is at another index is in this line
pub record IsLineBegin (text : List ℕ) (index begin : ℕ) : Type 0 where
  pub at_most : begin ≤ index
  pub begins : 0 < begin → ends_line (slice_index text (begin - 1)) ≡ true
  pub one_line : (k : ℕ) → begin ≤ k → k < index → ends_line (slice_index text k) ≡ false
