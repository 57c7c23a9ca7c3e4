-- A property of all elements holds for the one that a search finds.
use Rattle.std.proofs.Common.{◌≡◌, ◌<◌, ℕ, suc, Bool, true, false, cond, List, [], ◌∷◌, length, Some, subst}
use Rattle.std.proofs.Common.{find, arith}
use Rattle.std.specs.Prelude.{slice_index_or}
use Rattle.std.specs.List.{All}

-- an element that a search finds has a position
found_at : {X : Type 0} (p : X → Bool) (xs : List X) (x : X) → find p xs ≡ Some x →
    (k : ℕ) × (k < length xs) × (slice_index_or xs k x ≡ x)
found_at p [] x e = absurd (cc)
found_at p (y ∷ xs) x e = by (p y) e (found_at p xs x)
  where
    by : (b : Bool) → cond b (Some y) (find p xs) ≡ Some x →
        (find p xs ≡ Some x → (k : ℕ) × (k < length xs) × (slice_index_or xs k x ≡ x)) →
        (k : ℕ) × (k < suc (length xs)) × (slice_index_or (y ∷ xs) k x ≡ x)
    by true e rest = (0, omega arith, cc)
    by false e rest = let r = rest e in let lt = r.1 in (suc r.0, omega (arith, lt), r.2)

pub found_all : {X : Type 0} (P : X → Type 0) (p : X → Bool) (xs : List X) (x : X) → All P xs →
    find p xs ≡ Some x → P x
found_all P p xs x all e = let f = found_at p xs x e in subst P f.2 (all f.0 x f.1)
