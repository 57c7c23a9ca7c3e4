-- What a string of JSON says.
use Rattle.std.specs.Prelude.{ℕ, List, ◌-◌, ◌==◌, Bool, false, length, drop, take, if◌then◌else◌}
use Rattle.std.specs.Prelude.{Option, Some, None, option_and_then, bytes_eq}
use Rattle.std.specs.List.{list_any}
use Rattle.std.specs.Str.{is_utf8}
use Rattle.serde_json.specs.Find.{as_str}
use Rattle.serde_json.specs.Read.{read}

-- what stands between the first and the last byte
abbrev pub inside : List ℕ → List ℕ
inside string = drop 1 (take (length string - 1) string)

abbrev pub has_escape : List ℕ → Bool
has_escape string = list_any (λ b. b == 92) string

-- what is read of it as JSON, if that is a text
unfoldable pub read_text : List ℕ → Option (List ℕ)
read_text string = if is_utf8 string then option_and_then as_str (read string) else None

-- what a string says: what stands between its quotes, or what is read where a backslash is in it
unfoldable pub text_of : List ℕ → Option (List ℕ)
text_of string =
    if has_escape string then read_text string
    else if is_utf8 (inside string) then Some (inside string)
    else None

abbrev pub is_text : List ℕ → Option (List ℕ) → Bool
is_text text None = false
is_text text (Some found) = bytes_eq found text

-- a string says this text
unfoldable pub says : List ℕ → List ℕ → Bool
says text string =
    if has_escape string then is_text text (read_text string) else bytes_eq (inside string) text
