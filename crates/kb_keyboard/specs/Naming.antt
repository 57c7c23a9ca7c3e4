-- Which key of key rules a key of a keyboard is: `code` is its place, `key` what it means or writes.
use Rattle.std.specs.Prelude.{ℕ, List, [], ◌∷◌, ◌==◌, ◌&&◌, ◌||◌, not, Bool, false, if◌then◌else◌, nat_le}
use Rattle.std.specs.Prelude.{Option, Some, None, codes, drop, length, nat_eq, unwrap_or}
use Rattle.std.specs.List.{list_any, starts_with}
use Rattle.std.specs.Option.{option_or}
use Rattle.kb_jsonc.specs.Parts.{◌>>=◌}
use Rattle.kb_keys.specs.KeyName.{key_named}
use Rattle.kb_keyboard.specs.Tables.{named_in, meanings, pad_signs, places}

-- what is behind the beginning of a text
unfoldable pub behind : List ℕ → List ℕ → Option (List ℕ)
behind text beginning =
    if starts_with nat_eq text beginning then Some (drop (length beginning) text) else None

-- the text is one byte that passes
abbrev pub is_one : (ℕ → Bool) → List ℕ → Bool
is_one passes [] = false
is_one passes (b ∷ []) = passes b
is_one passes (b ∷ c ∷ bs) = false

abbrev pub is_digit : List ℕ → Bool
is_digit text = is_one (λ b. nat_le 48 b && nat_le b 57) text

abbrev pub is_letter : List ℕ → Bool
is_letter text = is_one (λ b. (nat_le 97 b && nat_le b 122) || (nat_le 65 b && nat_le b 90)) text

abbrev pub is_sign : List ℕ → Bool
is_sign text = is_one (λ b. list_any (λ s. b == s) (codes "`-=[]\\;',./")) text

-- a part of a code, if it passes
abbrev pub if_passes : (List ℕ → Bool) → List ℕ → Option (List ℕ)
if_passes passes part = if passes part then Some part else None

abbrev pub pad_digit : List ℕ → List ℕ → Option (List ℕ)
pad_digit code key =
    behind code (codes "Numpad") >>= λ digit. if is_digit digit && is_digit key then Some code else None

abbrev pub digit_at : List ℕ → Option (List ℕ)
digit_at code = behind code (codes "Digit") >>= if_passes is_digit

abbrev pub letter_at : List ℕ → Option (List ℕ)
letter_at code = behind code (codes "Key") >>= if_passes is_letter

-- a key that no layout changes, or a digit, which its place names
unfoldable pub fixed : List ℕ → List ℕ → Option (List ℕ)
fixed code key =
    option_or (pad_digit code key)
    (option_or (named_in meanings key) (option_or (named_in pad_signs code) (digit_at code)))

-- a letter that a key writes, the letter at its place, or a sign that it writes without Shift
unfoldable pub written : List ℕ → List ℕ → Bool → Option (List ℕ)
written code key shifted =
    option_or (if_passes is_letter key)
    (option_or (letter_at code) (if not shifted && is_sign key then Some key else None))

-- the name of a key, at last what it writes
unfoldable pub name_of : List ℕ → List ℕ → Bool → List ℕ
name_of code key shifted =
    unwrap_or (option_or (fixed code key) (option_or (written code key shifted) (named_in places code))) key

-- the key of this name, if there is one
unfoldable pub key_at : List ℕ → List ℕ → Bool → Option ℕ
key_at code key shifted = key_named (name_of code key shifted)
