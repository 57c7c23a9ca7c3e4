-- Where the lines of a text begin. A line ends with LF, CR LF or CR alone.
use Rattle.std.specs.Prelude.{◌≡◌, ◌<◌, ◌≤◌, ℕ, zero, suc, ◌+◌, ◌-◌, ◌==◌, ◌&&◌, ◌||◌, Bool, true, not}
use Rattle.std.specs.Prelude.{length, if◌then◌else◌, List, [], ◌∷◌, ◌++◌, slice_index}

abbrev pub ends_line : ℕ → Bool
ends_line byte = byte == 10 || byte == 13

-- a line begins at the beginning of the text, behind LF, and behind CR unless LF follows
abbrev pub begins : List ℕ → ℕ → Bool
begins text zero = true
begins text (suc n) =
    slice_index text n == 10 || (slice_index text n == 13 && not (slice_index text (suc n) == 10))

-- the indices below a limit at which lines begin
unfoldable pub starts_below : List ℕ → ℕ → List ℕ
starts_below text zero = []
starts_below text (suc limit) = starts_below text limit ++ (if begins text limit then limit ∷ [] else [])

-- the indices at which lines begin, one for each line
abbrev pub starts : List ℕ → List ℕ
starts text = starts_below text (length text + 1)

-- the number of the line of an index, from 0: how many lines begin up to it, less one
abbrev pub line_of : List ℕ → ℕ → ℕ
line_of text index = length (starts_below text (index + 1)) - 1

-- this is the number of the line of an index, and the line begins there
pub record IsLineOf (text : List ℕ) (index line : ℕ) : Type 0 where
  pub number : line ≡ line_of text index
  pub there : line < length (starts text)
  pub begins_before : slice_index (starts text) line ≤ index
