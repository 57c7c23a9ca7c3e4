-- The value of a file of JSON with comments.
use Rattle.std.specs.Prelude.{◌≡◌, ℕ, ◌==◌, ◌&&◌, if◌then◌else◌, List, ◌∷◌, Result, Ok, Err}
use Rattle.std.specs.List.{list_all}
use Rattle.std.specs.Str.{is_utf8}
use Rattle.serde_json.specs.Data.{Data, array, no_items}
use Rattle.serde_json.specs.Errors.{IsMemory}
use Rattle.serde_json.specs.Read.{read as read_text}
use Rattle.serde_json.specs.declared.error.Error.{Error}
use Rattle.kb_base.specs.declared.failure.Failure.{Failure}
use Rattle.kb_base.specs.declared.failure.Failure.TheVariants.{NoMemory, Fault}
use Rattle.kb_jsonc.specs.declared.fault.JsoncFault.{JsoncFault}
use Rattle.kb_jsonc.specs.declared.fault.JsoncFault.TheVariants.{NotUtf8, Syntax}
use Rattle.kb_base.specs.Reading.{◌>>=◌, or_fault}
use Rattle.kb_base.specs.Blank.{is_blank}
use Rattle.kb_jsonc.specs.Text.{plain_text}

-- the bytes without the byte order mark
abbrev pub without_mark : List ℕ → List ℕ
without_mark (a ∷ b ∷ c ∷ rest) = if a == 0xEF && (b == 0xBB && c == 0xBF) then rest else a ∷ b ∷ c ∷ rest
without_mark bytes = bytes

-- a blank text is the empty list; `serde_json` parses any other
unfoldable pub plain_value : List ℕ → Result Data JsoncFault
plain_value text = if list_all is_blank text then Ok (array no_items) else or_fault Syntax (read_text text)

-- the value of a file, or its first fault
unfoldable pub value_of : List ℕ → Result Data JsoncFault
value_of bytes = if is_utf8 bytes then plain_text (without_mark bytes) >>= plain_value else Err NotUtf8

-- The failure for an error of `serde_json`: `NoMemory` exactly for its out-of-memory error, `Syntax` for
-- any other.
abbrev pub TellsError : Error → Failure JsoncFault → Type 0
TellsError error NoMemory = IsMemory error
TellsError error (Fault fault) = (IsMemory error → ⊥) × (fault ≡ Syntax)
