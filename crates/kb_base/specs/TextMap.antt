-- A table's entries, by the bytes of their keys, and the numbers that its keys get in another table.
use Rattle.std.specs.Prelude.{ℕ, Bool, List, map, Option, Some, None, String, string_bytes, if◌then◌else◌}
use Rattle.std.specs.declared.alloc.Global.{Global}

abbrev pub by_bytes : {X : Type 0} → List (String Global × X) → List (List ℕ × X)
by_bytes = map (λ e. (string_bytes e.0, e.1))

-- what a key has: what it had, or else the number if the test holds
abbrev pub filled : {A : Type 0} → Option A → Bool → A → Option A
filled (Some x) test number = Some x
filled None test number = if test then Some number else None
