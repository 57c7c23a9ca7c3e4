-- Names that are one edit from another one.
use Rattle.std.specs.Prelude.{ℕ, ◌==◌, List, [], ◌∷◌, length, Bool, false, ◌&&◌, ◌||◌, if◌then◌else◌}
use Rattle.std.specs.Str.{bytes_eq}

-- two bytes of a text are exchanged in the other, and what is behind them is the same
abbrev pub is_exchanged : List ℕ → List ℕ → Bool
is_exchanged (a ∷ b ∷ rest) (c ∷ d ∷ others) = (a == d) && (b == c) && bytes_eq rest others
is_exchanged one other = false

-- texts that differ in their first bytes, or of which one is empty, differ by one edit there: a byte more, a
-- byte less, another byte, or two neighbouring bytes exchanged
abbrev pub is_edited : List ℕ → List ℕ → Bool
is_edited [] other = length other == 1
is_edited (a ∷ rest) [] = length rest == 0
is_edited (a ∷ rest) (b ∷ others) =
    bytes_eq rest others || bytes_eq (a ∷ rest) others || bytes_eq rest (b ∷ others)
    || is_exchanged (a ∷ rest) (b ∷ others)

-- one edit makes the other text of a text, behind the bytes that both begin with
abbrev pub is_near : List ℕ → List ℕ → Bool
is_near (a ∷ rest) (b ∷ others) =
    if a == b then is_near rest others else is_edited (a ∷ rest) (b ∷ others)
is_near one other = is_edited one other
