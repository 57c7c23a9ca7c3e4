-- Identifiers of extensions.
use Rattle.std.specs.Prelude.{ℕ, List, Bool}
use Rattle.std.specs.Str.{str_eq_ignore_ascii_case}

-- two texts identify the same extension: they are equal but for the case of ASCII letters
abbrev pub same_id : List ℕ → List ℕ → Bool
same_id id other = str_eq_ignore_ascii_case id other
