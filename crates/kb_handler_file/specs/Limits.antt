-- Limits of a handler.
use Rattle.std.specs.Prelude.{ℕ, ℤ, pos, negsuc, Bool, ◌&&◌, nat_le, List, length}
use Rattle.std.specs.Prelude.{Option, Some, None, if◌then◌else◌}
use Rattle.kb_core.specs.declared.parameter.Param.{Param}
use Rattle.kb_core.specs.Declaration.{Declaration}
use Rattle.kb_jsonc.specs.Parts.{◌>>=◌}

-- the list has at most `limit` elements
abbrev pub are_few : {A : Type 0} → ℕ → List A → Bool
are_few limit xs = nat_le (length xs) limit

-- the list, if it has at most `limit` elements
abbrev pub at_most : {A : Type 0} → ℕ → List A → Option (List A)
at_most limit xs = if are_few limit xs then Some xs else None

-- the number, if it is from 1 to `limit`
abbrev pub within : ℕ → ℤ → Option ℕ
within limit (pos n) = if nat_le 1 n && nat_le n limit then Some n else None
within limit (negsuc n) = None

-- the declaration of a handler, if it is within the limits
unfoldable pub signature_of : List Param → ℤ → ℤ → Option Declaration
signature_of params budget depth = do
  params ← at_most 8 params
  budget ← within 1000000000 budget
  depth ← within 64 depth
  Some (record { params = params; budget = budget; depth = depth })
