-- A walk over a list from its end.
use Rattle.std.proofs.Common.{◌≡◌, ◌∷◌, [], refl, suc, zero, ℕ, drop, ap, List, None, Some, slice_get}
use Rattle.std.proofs.lemmas.Option.{same_Some}

here : {X : Type 0} (xs : List X) (m : ℕ) (x : X) → slice_get xs m ≡ Some x → drop m xs ≡ x ∷ drop (suc m) xs
here [] m x h = absurd (cc)
here (y ∷ xs) zero x h = ap (λ z. z ∷ xs) (same_Some y x h)
here (y ∷ xs) (suc m) x h = here xs m x h

past : {X : Type 0} (xs : List X) (m : ℕ) → slice_get xs m ≡ None → drop m xs ≡ drop (suc m) xs
past [] zero h = refl
past [] (suc m) h = refl
past (y ∷ xs) zero h = absurd (cc)
past (y ∷ xs) (suc m) h = past xs m h

-- the element at a place, in front of those below it
pub drop-here : {X : Type 0} (xs : List X) (n m : ℕ) (x : X) → n ≡ suc m → slice_get xs m ≡ Some x
    → drop m xs ≡ x ∷ drop n xs
drop-here xs n m x e h = rw e (here xs m x h)

-- without an element there, those below are the same
pub drop-past : {X : Type 0} (xs : List X) (n m : ℕ) → n ≡ suc m → slice_get xs m ≡ None
    → drop m xs ≡ drop n xs
drop-past xs n m e h = rw e (past xs m h)
