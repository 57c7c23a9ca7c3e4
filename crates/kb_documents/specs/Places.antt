-- Where indices and positions are each other's.
use Rattle.std.specs.Prelude.{◌≡◌, ◌≤◌, ℕ, zero, suc, ◌==◌, ◌&&◌, Bool, false, Some, List}
use Rattle.std.specs.Prelude.{length, take, drop, slice_get, slice_index, encode_utf8}
use Rattle.std.specs.Char.Escape.{encode_utf16}
use Rattle.std.specs.List.{before_first}
use Rattle.kb_documents.specs.declared.encoding.Encoding.{Encoding}
use Rattle.kb_documents.specs.declared.encoding.Encoding.TheVariants.{Utf8, Utf16}
use Rattle.kb_documents.specs.declared.position.Position.{Position}
use Rattle.kb_documents.specs.Columns.{column, is_inside}
use Rattle.kb_documents.specs.Lines.{ends_line, starts}

-- an index between the CR and the LF of one line end
abbrev pub is_between : List ℕ → ℕ → Bool
is_between text zero = false
is_between text (suc n) = slice_index text n == 13 && slice_index text (suc n) == 10

-- the index of a character or of the end of the text, not inside a line end
pub record IsPlace (text : List ℕ) (index : ℕ) : Type 0 where
  pub within : index ≤ length text
  pub whole : is_inside (slice_index text index) ≡ false
  pub apart : is_between text index ≡ false

-- the line that begins at an index, without its end
abbrev pub line_from : List ℕ → ℕ → List ℕ
line_from text begin = before_first ends_line (drop begin text)

-- the position of a character of a line, or of the line's end
pub record IsPosition (encoding : Encoding) (text : List ℕ) (position : Position) : Type 0 where
  pub begin : ℕ
  pub len : ℕ
  pub line : slice_get (starts text) position.line ≡ Some begin
  pub within : len ≤ length (line_from text begin)
  pub whole : is_inside (slice_index (line_from text begin) len) ≡ false
  pub column_is : position.character ≡ column encoding (take len (line_from text begin))

-- the code units of a character
abbrev pub code_units : Encoding → ℕ → ℕ
code_units Utf8 c = length (encode_utf8 c)
code_units Utf16 c = length (encode_utf16 c)
