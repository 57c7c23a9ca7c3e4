-- The names of the keys, and the lookup of a key by name.
use Rattle.std.specs.Prelude.{ℕ, List, [], ◌∷◌, Option, slice_index_or, position, map, bytes_eq, codes}
use Rattle.std.specs.Char.{to_ascii_lowercase}

-- the number of keys
abbrev pub key_count : ℕ
key_count = 99

-- the number of bytes in the longest name
abbrev pub longest_name : ℕ
longest_name = 16

-- The table of names: letters and digits, signs, cursor keys, editing keys, other keys, function keys,
-- number pad. A key is the index of its name.
unfoldable pub names : List (List ℕ)
names =
    codes "a" ∷ codes "b" ∷ codes "c" ∷ codes "d" ∷ codes "e" ∷ codes "f" ∷ codes "g" ∷ codes "h" ∷
    codes "i" ∷ codes "j" ∷ codes "k" ∷ codes "l" ∷ codes "m" ∷ codes "n" ∷ codes "o" ∷ codes "p" ∷
    codes "q" ∷ codes "r" ∷ codes "s" ∷ codes "t" ∷ codes "u" ∷ codes "v" ∷ codes "w" ∷ codes "x" ∷
    codes "y" ∷ codes "z" ∷ codes "0" ∷ codes "1" ∷ codes "2" ∷ codes "3" ∷ codes "4" ∷ codes "5" ∷
    codes "6" ∷ codes "7" ∷ codes "8" ∷ codes "9" ∷
    codes "`" ∷ codes "-" ∷ codes "=" ∷ codes "[" ∷ codes "]" ∷ codes "\\" ∷ codes ";" ∷ codes "'" ∷
    codes "," ∷ codes "." ∷ codes "/" ∷
    codes "left" ∷ codes "up" ∷ codes "right" ∷ codes "down" ∷ codes "pageup" ∷ codes "pagedown" ∷
    codes "end" ∷ codes "home" ∷
    codes "tab" ∷ codes "enter" ∷ codes "escape" ∷ codes "space" ∷ codes "backspace" ∷ codes "delete" ∷
    codes "pausebreak" ∷ codes "capslock" ∷ codes "insert" ∷
    codes "f1" ∷ codes "f2" ∷ codes "f3" ∷ codes "f4" ∷ codes "f5" ∷ codes "f6" ∷ codes "f7" ∷
    codes "f8" ∷ codes "f9" ∷ codes "f10" ∷ codes "f11" ∷ codes "f12" ∷ codes "f13" ∷ codes "f14" ∷
    codes "f15" ∷ codes "f16" ∷ codes "f17" ∷ codes "f18" ∷ codes "f19" ∷
    codes "numpad0" ∷ codes "numpad1" ∷ codes "numpad2" ∷ codes "numpad3" ∷ codes "numpad4" ∷
    codes "numpad5" ∷ codes "numpad6" ∷ codes "numpad7" ∷ codes "numpad8" ∷ codes "numpad9" ∷
    codes "numpad_multiply" ∷ codes "numpad_add" ∷ codes "numpad_separator" ∷ codes "numpad_subtract" ∷
    codes "numpad_decimal" ∷ codes "numpad_divide" ∷ []

-- the name at an index of the table
abbrev pub name_of : ℕ → List ℕ
name_of k = slice_index_or names k []

-- the text with its ASCII letters in lower case
abbrev pub lowered : List ℕ → List ℕ
lowered text = map to_ascii_lowercase text

-- the key with a name, in any ASCII letter case
unfoldable pub key_named : List ℕ → Option ℕ
key_named text = position (λ name. bytes_eq (lowered name) (lowered text)) names
