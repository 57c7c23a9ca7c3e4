-- The blanked text, defined on the pieces: comments are blanked, and then all trailing commas at once.
use Rattle.std.specs.Prelude.{ℕ, ◌==◌, ◌&&◌, Bool, if◌then◌else◌, List, [], ◌∷◌, ◌++◌, map, Option, Some}
use Rattle.std.specs.Prelude.{None, Result, Ok}
use Rattle.kb_jsonc.specs.declared.fault.JsoncFault.{JsoncFault}
use Rattle.kb_base.specs.Reading.{◌>>=◌}
use Rattle.kb_base.specs.Blank.{is_blank}
use Rattle.kb_jsonc.specs.Bytes.{quote, comma, space, blanked, closes, ends_value}
use Rattle.kb_jsonc.specs.Pieces.{Piece, quoted, comment, single, pieces}

-- the next byte that is not blank; comments count as blank
abbrev pub next_of : List Piece → Option ℕ
next_of [] = None
next_of (quoted bytes ∷ ps) = Some quote
next_of (comment bytes ∷ ps) = next_of ps
next_of (single b ∷ ps) = if is_blank b then next_of ps else Some b

-- a comma is trailing after an element or a member and before a closing bracket
abbrev pub is_trailing : Option ℕ → ℕ → Option ℕ → Bool
is_trailing before b after = b == comma && (ends_value before && closes after)

-- the blanked text of pieces, where `before` is the last non-blank byte before them
abbrev pub plain_of : Option ℕ → List Piece → List ℕ
plain_of before [] = []
plain_of before (quoted bytes ∷ ps) = bytes ++ plain_of (Some quote) ps
plain_of before (comment bytes ∷ ps) = map blanked bytes ++ plain_of before ps
plain_of before (single b ∷ ps) =
    (if is_trailing before b (next_of ps) then space else b)
    ∷ plain_of (if is_blank b then before else Some b) ps

unfoldable pub plain_text : List ℕ → Result (List ℕ) JsoncFault
plain_text text = pieces text >>= λ ps. Ok (plain_of None ps)
