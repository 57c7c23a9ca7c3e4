-- The invariant of the pass over a text.
use Rattle.std.specs.Prelude.{◌≡◌, ℕ, ◌<◌, ◌≤◌, ◌==◌, ◌&&◌, false, if◌then◌else◌, List, ◌++◌, length}
use Rattle.std.specs.Prelude.{slice_index, slice_set, take, drop, Option, Some, None, IfSome, Result, Ok}
use Rattle.std.specs.Str.{IsUtf8}
use Rattle.kb_jsonc.specs.declared.fault.JsoncFault.{JsoncFault}
use Rattle.kb_jsonc.specs.declared.scan.Scan.{Scan}
use Rattle.kb_base.specs.Reading.{◌>>=◌}
use Rattle.kb_base.specs.Blank.{is_blank}
use Rattle.kb_jsonc.specs.Bytes.{space, comma, closes, ends_value}
use Rattle.kb_jsonc.specs.Pieces.{Piece, single, pieces, first_of}
use Rattle.kb_jsonc.specs.Text.{next_of, plain_of}

-- the bytes done, once the next byte is known: the remembered comma is blanked before a closing bracket
abbrev pub settled : List ℕ → Option ℕ → Option ℕ → List ℕ
settled done None after = done
settled done (Some place) after = if closes after then slice_set done place space else done

-- the whole text, from the bytes done and the pieces of the rest
abbrev pub whole_of : List ℕ → Option ℕ → Option ℕ → List Piece → List ℕ
whole_of done comma before ps = settled done comma (next_of ps) ++ plain_of before ps

unfoldable pub continued : List ℕ → Option ℕ → Option ℕ → List ℕ → Result (List ℕ) JsoncFault
continued done comma before rest = pieces rest >>= λ ps. Ok (whole_of done comma before ps)

-- the result of the pass from this state on: the bytes done, followed by the result of the rest
abbrev pub outcome : List ℕ → Scan → Result (List ℕ) JsoncFault
outcome bytes scan = continued (take scan.at bytes) scan.comma scan.before (drop scan.at bytes)

-- the state fits the text: the remembered comma lies before `at`
pub record StandsIn (bytes : List ℕ) (scan : Scan) : Type 0 where
  pub within : scan.at ≤ length bytes
  pub waits : IfSome scan.comma (λ place. (place < scan.at) × (slice_index bytes place ≡ comma))
  pub utf8 : IsUtf8 bytes

-- the pass advances and keeps its result
pub record GoesOn (old : List ℕ) (scan : Scan) (new : List ℕ) (next : Scan) : Type 0 where
  pub further : scan.at < next.at
  pub stands : StandsIn new next
  pub length : length new ≡ length old
  pub same : outcome new next ≡ outcome old scan

-- The next byte is a piece of its own, is not blank, cannot be a trailing comma, and does not close a
-- bracket after a remembered comma.
pub record IsOrdinary (bytes : List ℕ) (scan : Scan) : Type 0 where
  pub single : first_of (drop scan.at bytes) ≡ Ok (single (slice_index bytes scan.at))
  pub ink : is_blank (slice_index bytes scan.at) ≡ false
  pub no_comma : (slice_index bytes scan.at == comma && ends_value scan.before) ≡ false
  pub no_close : IfSome scan.comma (λ _. closes (Some (slice_index bytes scan.at)) ≡ false)
