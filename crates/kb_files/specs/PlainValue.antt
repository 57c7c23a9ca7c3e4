-- Bytes of texts that are JSON as they stand.
use Rattle.std.specs.Prelude.{ℕ, Bool, not, nat_lt, ◌==◌, ◌&&◌}

-- a byte that stands for itself between the quotes of JSON: no control character, quote or backslash
abbrev pub is_plain : ℕ → Bool
is_plain b = not (nat_lt b 32) && (not (b == 34) && not (b == 92))
