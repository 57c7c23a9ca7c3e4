-- The marks of a map's keys, by their hashes.
use Rattle.std.specs.Prelude.{◌≡◌, ℕ, Bool, true, false, List, Option, is_some, slice_get, length}
use Rattle.std.specs.Option.{option_map_or}
use Rattle.std.specs.Ordering.{nat_cmp}
use Rattle.std.specs.Cmp.Lexicographic.{slice_cmp}
use Rattle.std.specs.FinMap.{FinMap, contains_key}
use Rattle.kb_base.specs.HashedText.{hash_of}

-- whether there is a mark of a hash
abbrev pub is_marked : {M : Type 0} → List (Option M) → ℕ → Bool
is_marked marks hash = option_map_or is_some (slice_get marks hash) false

-- there is room for a mark of each hash, and one for the hash of each key
pub record HasMarks {M V : Type 0}
    (map : FinMap (slice_cmp nat_cmp) V) (marks : List (Option M)) : Type 0 where
  pub room : length marks ≡ 1024
  pub marked : (key : List ℕ) → contains_key map key ≡ true → is_marked marks (hash_of key) ≡ true
