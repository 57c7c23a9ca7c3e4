-- Positions in a text, and its edits.
use Rattle.std.specs.Prelude.{ℕ, ◌+◌, ◌-◌, List, ◌++◌, length, take, drop, min, max, slice_get, slice_index}
use Rattle.std.specs.Prelude.{Option, Some, None}
use Rattle.std.specs.List.{before_first}
use Rattle.kb_documents.specs.declared.encoding.Encoding.{Encoding}
use Rattle.kb_documents.specs.declared.position.Position.{Position}
use Rattle.kb_documents.specs.declared.position.Range.{Range}
use Rattle.kb_documents.specs.Columns.{column, fit}
use Rattle.kb_documents.specs.Lines.{ends_line, line_of, starts}

-- the column of an index in the line that begins at another one; an index between CR and LF is the line's end
abbrev pub column_at : Encoding → List ℕ → ℕ → ℕ → ℕ
column_at encoding text begin index =
    column encoding (before_first ends_line (take (index - begin) (drop begin text)))

-- the position of an index in a text
abbrev pub place_of : Encoding → List ℕ → ℕ → Position
place_of encoding text index = record {
  line = line_of text index;
  character = column_at encoding text (slice_index (starts text) (line_of text index)) index;
}

-- the position of an index, or of the end of the text behind it
abbrev pub position_of : Encoding → List ℕ → ℕ → Position
position_of encoding text index = place_of encoding text (min index (length text))

abbrev pub index_in : Encoding → List ℕ → ℕ → Option ℕ → ℕ
index_in encoding text character None = length text
index_in encoding text character (Some begin) =
    begin + fit encoding (before_first ends_line (drop begin text)) character

-- the index of a position: a column behind the end of its line is the line's end, a line behind the last one
-- is the end of the text
abbrev pub index_of : Encoding → List ℕ → Position → ℕ
index_of encoding text position =
    index_in encoding text position.character (slice_get (starts text) position.line)

-- a text with another one in place of a part, whose ends may stand in any order
abbrev pub spliced : List ℕ → ℕ → ℕ → List ℕ → List ℕ
spliced text one other new = take (min one other) text ++ new ++ drop (max one other) text

abbrev pub changed : Encoding → List ℕ → Range → List ℕ → List ℕ
changed encoding text range new =
    spliced text (index_of encoding text range.start) (index_of encoding text range.end) new
