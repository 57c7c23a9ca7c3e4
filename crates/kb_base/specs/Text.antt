-- The first and the last character of a text, on its bytes. A character is a Unicode scalar value.
use Rattle.std.specs.Prelude.{ℕ, ◌-◌, List, length, take, drop}
use Rattle.std.specs.Str.{chars, encode_utf8_all}

-- the text without its last character, and that character alone; both are empty for an empty text
unfoldable pub without_last : List ℕ → List ℕ
without_last text = encode_utf8_all (take (length (chars text) - 1) (chars text))

unfoldable pub only_last : List ℕ → List ℕ
only_last text = encode_utf8_all (drop (length (chars text) - 1) (chars text))

-- the same of the first character
unfoldable pub without_first : List ℕ → List ℕ
without_first text = encode_utf8_all (drop 1 (chars text))

unfoldable pub only_first : List ℕ → List ℕ
only_first text = encode_utf8_all (take 1 (chars text))
