-- Keys and their messages.
use Rattle.std.specs.Prelude.{ℕ, ◌-◌, ◌==◌, ◌&&◌, Bool, if◌then◌else◌, List, [], ◌∷◌, codes, length, nat_le}
use Rattle.std.specs.Prelude.{slice_index, slice_range, Option, Some, None, option_map}
use Rattle.std.specs.Option.{option_or}
use Rattle.json.specs.Print.{quoted}
use Rattle.serde_json.specs.Data.{Data}
use Rattle.serde_json.specs.Find.{get}
use Rattle.kb_jsonc.specs.Parts.{◌>>=◌, word_of}
use Rattle.kb_exchange.specs.Says.{text_of}

-- a text of two bytes or more begins and ends with `%`
unfoldable pub has_key : List ℕ → Bool
has_key text =
    (nat_le 2 (length text) && (slice_index text 0 == 37)) && (slice_index text (length text - 1) == 37)

-- the key that a text between two `%` is
unfoldable pub key_in : List ℕ → Option (List ℕ)
key_in text = if has_key text then Some (slice_range text 1 (length text - 1)) else None

-- the message that a value is: a text that isn't empty, or an object whose member `message` is one
unfoldable pub message_in : Data → Option (List ℕ)
message_in d = option_or (word_of d) (get (codes "message") d >>= word_of)

-- the message of a value, or of those behind it where there is none
abbrev pub of_first : Option Data → Option (List ℕ) → Option (List ℕ)
of_first None others = others
of_first (Some d) others = message_in d

-- the message of a key, in the first bundle that has it
abbrev pub message_of : List ℕ → List Data → Option (List ℕ)
message_of key [] = None
message_of key (bundle ∷ bundles) = of_first (get key bundle) (message_of key bundles)

-- what stands in the place of a string with a key: its message, as a string of JSON
unfoldable pub renewed : List Data → List ℕ → Option (List ℕ)
renewed bundles string = option_map quoted (text_of string >>= key_in >>= λ key. message_of key bundles)
