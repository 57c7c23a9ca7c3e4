-- Cutting a text into pieces: strings, comments and single bytes.
use Rattle.std.specs.Prelude.{◌≡◌, ℕ, zero, suc, ◌+◌, ◌-◌, ◌<◌, ◌≤◌, ◌==◌, ◌&&◌, not, Bool, false}
use Rattle.std.specs.Prelude.{if◌then◌else◌, List, [], ◌∷◌, length, take, drop, slice_index, Option, Some}
use Rattle.std.specs.Prelude.{None, option_map, Result, Ok, Err}
use Rattle.std.specs.List.{prefix_len}
use Rattle.std.specs.Str.{IsUtf8}
use Rattle.kb_jsonc.specs.declared.fault.JsoncFault.{JsoncFault}
use Rattle.kb_jsonc.specs.declared.fault.JsoncFault.TheVariants.{OpenComment, OpenString}
use Rattle.kb_base.specs.Reading.{◌>>=◌, or_fault}
use Rattle.kb_jsonc.specs.Bytes.{quote, backslash, slash, star, is_line_end}

-- a string with its quotes, a comment with its marks, or a single other byte
pub data Piece : Type 0 where
  quoted : List ℕ → Piece
  comment : List ℕ → Piece
  single : ℕ → Piece

abbrev pub bytes_of : Piece → List ℕ
bytes_of (quoted bytes) = bytes
bytes_of (comment bytes) = bytes
bytes_of (single b) = b ∷ []

-- the length of a string, including its closing quote: the first quote that is not escaped by a backslash
abbrev pub string_len : List ℕ → Option ℕ
string_len [] = None
string_len (b ∷ []) = if b == quote then Some 1 else None
string_len (b ∷ c ∷ bs) =
    if b == quote then Some 1
    else if b == backslash then option_map (λ n. n + 2) (string_len bs)
    else option_map (λ n. n + 1) (string_len (c ∷ bs))

-- the length of a block comment, including the first end mark
abbrev pub block_len : List ℕ → Option ℕ
block_len [] = None
block_len (b ∷ []) = None
block_len (b ∷ c ∷ bs) =
    if b == star && c == slash then Some 2 else option_map (λ n. n + 1) (block_len (c ∷ bs))

-- the length of a line, without its line end
abbrev pub line_len : List ℕ → ℕ
line_len bs = prefix_len (λ b. not (is_line_end b)) bs

abbrev pub begins : ℕ → List ℕ → Bool
begins b [] = false
begins b (c ∷ bs) = c == b

-- the first piece of b ∷ bs
unfoldable pub first_piece : ℕ → List ℕ → Result Piece JsoncFault
first_piece b bs =
    if b == quote then or_fault OpenString (option_map (λ n. quoted (b ∷ take n bs)) (string_len bs))
    else if b == slash && begins slash bs then Ok (comment (b ∷ take (line_len bs) bs))
    else if b == slash && begins star bs then
    or_fault OpenComment (option_map (λ n. comment (b ∷ take (n + 1) bs)) (block_len (drop 1 bs)))
    else Ok (single b)

-- the first piece of a non-empty text
abbrev pub first_of : List ℕ → Result Piece JsoncFault
first_of text = first_piece (slice_index text 0) (drop 1 text)

-- the pieces after the first n bytes
abbrev pub pieces_past : ℕ → List ℕ → Result (List Piece) JsoncFault
pieces_past n [] = Ok []
pieces_past zero (b ∷ bs) =
    first_piece b bs >>= λ piece. pieces_past (length (bytes_of piece) - 1) bs >>= λ rest. Ok (piece ∷ rest)
pieces_past (suc n) (b ∷ bs) = pieces_past n bs

-- the pieces of a text, cut from the left
abbrev pub pieces : List ℕ → Result (List Piece) JsoncFault
pieces text = pieces_past 0 text

-- the text begins with a comment of n bytes, and the rest of a UTF-8 text is UTF-8
pub record OpensComment (text : List ℕ) (n : ℕ) : Type 0 where
  pub first : first_of text ≡ Ok (comment (take n text))
  pub some : 0 < n
  pub within : n ≤ length text
  pub rest : IsUtf8 text → IsUtf8 (drop n text)
