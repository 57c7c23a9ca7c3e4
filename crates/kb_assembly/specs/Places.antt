-- The place of a name in a list.
use Rattle.std.specs.Prelude.{ℕ, ◌+◌, List, [], ◌∷◌, Option, Some, None, bytes_eq, if◌then◌else◌}

-- the place of the first equal text, counted from a number
abbrev pub place_in : ℕ → List (List ℕ) → List ℕ → Option ℕ
place_in n [] name = None
place_in n (text ∷ texts) name = if bytes_eq text name then Some n else place_in (n + 1) texts name
