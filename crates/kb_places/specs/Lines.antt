-- Where the lines of a text begin. A line ends with LF, CR LF or CR alone.
use Rattle.std.specs.Prelude.{◌≡◌, ℕ, zero, suc, ◌+◌, ◌-◌, ◌==◌, ◌&&◌, ◌||◌, Bool, not, nat_lt, length}
use Rattle.std.specs.Prelude.{if◌then◌else◌, List, [], ◌∷◌, ◌++◌, slice_index}
use Rattle.kb_places.specs.declared.line_table.LineTable.{LineTable}

-- a line begins at an index behind the first byte: behind LF, and behind CR unless LF follows
abbrev pub begins_line : List ℕ → ℕ → Bool
begins_line text index =
    nat_lt 0 index
    && (slice_index text (index - 1) == 10
    || (slice_index text (index - 1) == 13 && not (slice_index text index == 10)))

-- the indices below a limit at which lines begin, but for the first line
unfoldable pub begins_below : List ℕ → ℕ → List ℕ
begins_below text zero = []
begins_below text (suc limit) =
    begins_below text limit ++ (if begins_line text limit then limit ∷ [] else [])

-- the number of the line of an index, from 1: one more than the lines that begin up to it
abbrev pub line_of : List ℕ → ℕ → ℕ
line_of text index = length (begins_below text (index + 1)) + 1

-- a table has the beginnings of all lines but the first
abbrev pub IsTableOf : List ℕ → LineTable → Type 0
IsTableOf text table = table.starts.items ≡ begins_below text (length text)
