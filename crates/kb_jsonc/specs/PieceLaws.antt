-- Laws of the pieces and of the blanked text.
use Rattle.std.specs.Prelude.{◌≡◌, ℕ, ◌+◌, ◌<◌, ◌⊎◌, List, length, slice_index, Some, Ok}
use Rattle.std.specs.List.{flat_map}
use Rattle.kb_jsonc.specs.Bytes.{star, slash, space}
use Rattle.kb_jsonc.specs.Pieces.{Piece, bytes_of, pieces, block_len}
use Rattle.kb_jsonc.specs.Text.{plain_text}

-- nothing is lost: the text is the concatenation of its pieces
abbrev pub PiecesAreWhole : Type 0
PiecesAreWhole = (text : List ℕ) (ps : List Piece) → pieces text ≡ Ok ps → text ≡ flat_map bytes_of ps

-- the blanked text has the same number of bytes
abbrev pub LengthStays : Type 0
LengthStays = (text plain : List ℕ) → plain_text text ≡ Ok plain → length plain ≡ length text

-- each byte is kept at its index or replaced by a space
abbrev pub OnlyBlanks : Type 0
OnlyBlanks = (text plain : List ℕ) → plain_text text ≡ Ok plain
    → (i : ℕ) → (slice_index plain i ≡ slice_index text i) ⊎ (slice_index plain i ≡ space)

-- a block comment ends at the first end mark
abbrev pub EndsFirst : Type 0
EndsFirst = (bs : List ℕ) (n : ℕ) → block_len bs ≡ Some (n + 2)
    → (slice_index bs n ≡ star) × (slice_index bs (n + 1) ≡ slash)
    × ((i : ℕ) → i < n → slice_index bs i ≡ star → slice_index bs (i + 1) ≡ slash → ⊥)
