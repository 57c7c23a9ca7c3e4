-- The integer that a text denotes.
use Rattle.std.specs.Prelude.{ℕ, suc, ℤ, pos, neg_ℤ, List, [], ◌∷◌, ◌+◌, ◌*◌, ◌-◌, ◌^◌, Bool, ◌&&◌}
use Rattle.std.specs.Prelude.{if◌then◌else◌, nat_eq, nat_lt, Option, Some, None, length}
use Rattle.std.specs.Str.{all_ascii_digits}

-- the value of digits that follow digits with the value so far
abbrev pub read_on : ℕ → List ℕ → ℕ
read_on value [] = value
read_on value (c ∷ cs) = read_on (10 * value + (c - 48)) cs

-- at least one digit, with a value below the bound
abbrev pub is_below : ℕ → List ℕ → Bool
is_below bound digits =
    all_ascii_digits digits && (nat_lt 0 (length digits) && nat_lt (read_on 0 digits) bound)

abbrev pub some_if : Bool → ℤ → Option ℤ
some_if b z = if b then Some z else None

-- an optional "-" (45) and digits, within 64 signed bits
abbrev pub number_of : List ℕ → Option ℤ
number_of [] = None
number_of (c ∷ cs) =
    if nat_eq c 45 then some_if (is_below (suc (2 ^ 63)) cs) (neg_ℤ (pos (read_on 0 cs)))
    else some_if (is_below (2 ^ 63) (c ∷ cs)) (pos (read_on 0 (c ∷ cs)))
