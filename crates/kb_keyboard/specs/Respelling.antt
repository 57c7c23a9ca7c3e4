-- Key texts with scan codes, respelled for a layout.
use Rattle.std.specs.Prelude.{ℕ, List, [], ◌∷◌, ◌++◌, ◌-◌, ◌==◌, ◌&&◌, ◌||◌, not, Bool, false, if◌then◌else◌}
use Rattle.std.specs.Prelude.{Option, Some, None, bytes_eq, codes, length, nat_le, slice_index}
use Rattle.std.specs.Prelude.{slice_range, unwrap_or}
use Rattle.json.specs.Print.{quoted}
use Rattle.kb_exchange.specs.declared.exchanging.Exchange.{Exchange}
use Rattle.kb_exchange.specs.Renewal.{renewals}
use Rattle.kb_exchange.specs.Says.{text_of}
use Rattle.kb_jsonc.specs.Parts.{◌>>=◌}
use Rattle.kb_keyboard.specs.declared.layout.LayoutKey.{LayoutKey}
use Rattle.kb_keyboard.specs.Layout.{name_at}
use Rattle.kb_keyboard.specs.Tables.{oem_name, same_word}

-- a word of three bytes or more begins with `[` and ends with `]`
unfoldable pub has_code : List ℕ → Bool
has_code word =
    (nat_le 3 (length word) && (slice_index word 0 == 91)) && (slice_index word (length word - 1) == 93)

-- the code that a word between brackets is
unfoldable pub code_in : List ℕ → Option (List ℕ)
code_in word = if has_code word then Some (slice_range word 1 (length word - 1)) else None

-- the name of the key of a code, or of a word without brackets
abbrev pub of_code : List LayoutKey → Bool → List ℕ → Option (List ℕ) → Option (List ℕ)
of_code keys shifted word None = oem_name word
of_code keys shifted word (Some code) = name_at keys code shifted

unfoldable pub new_name : List LayoutKey → Bool → List ℕ → Option (List ℕ)
new_name keys shifted word = of_code keys shifted word (code_in word)

-- what stands for a word: the name of its key, or the word
unfoldable pub new_word : List LayoutKey → Bool → List ℕ → List ℕ
new_word keys shifted word = unwrap_or (new_name keys shifted word) word

-- words are parted by spaces and the signs behind modifiers
abbrev pub is_separator : ℕ → Bool
is_separator b = b == 32 || (b == 43 || b == 45)

-- Shift is held behind a word `shift` and a sign, up to the next space
abbrev pub shifted_behind : Bool → List ℕ → ℕ → Bool
shifted_behind shifted word separator =
    not (separator == 32) && (shifted || same_word word (codes "shift"))

-- a text from the byte behind a word on, or the beginning of one
abbrev pub respelled_from : List LayoutKey → Bool → List ℕ → List ℕ → List ℕ
respelled_from keys shifted word [] = new_word keys shifted word
respelled_from keys shifted word (b ∷ bs) =
    if is_separator b then
    new_word keys shifted word ++ b ∷ respelled_from keys (shifted_behind shifted word b) [] bs
    else respelled_from keys shifted (word ++ b ∷ []) bs

-- each word of a key text is respelled
abbrev pub respelled : List LayoutKey → List ℕ → List ℕ
respelled keys text = respelled_from keys false [] text

-- ---- files

-- a text as a string of JSON, if it isn't the one before
abbrev pub if_other : List ℕ → List ℕ → Option (List ℕ)
if_other old new = if bytes_eq new old then None else Some (quoted new)

-- what stands for a string with a key text
unfoldable pub renewed : List LayoutKey → List ℕ → Option (List ℕ)
renewed keys string = text_of string >>= λ text. if_other text (respelled keys text)

abbrev pub key_names : List (List ℕ)
key_names = codes "key" ∷ codes "mac" ∷ codes "linux" ∷ codes "win" ∷ []

-- the strings of a file that are respelled
abbrev pub respellings : List LayoutKey → List ℕ → List Exchange
respellings keys file = renewals (renewed keys) key_names file
