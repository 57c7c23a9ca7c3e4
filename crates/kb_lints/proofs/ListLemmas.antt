-- Elements of a list with a seam.
use Rattle.std.proofs.Common.{◌≡◌, ◌<◌, ℕ, zero, suc, List, [], ◌∷◌, ◌++◌, length, Some, refl, sym, ap, subst, ◌∙◌, arith}
use Rattle.std.specs.Prelude.{Option, All, map, option_map, slice_get}
use Rattle.std.proofs.lemmas.Option.{slice_get-map, slice_get_within, get_or_from_slice_get}

-- the element at the seam
pub at_seam : {X : Type 0} (above : List X) (x : X) (below : List X)
    → slice_get (above ++ x ∷ below) (length above) ≡ Some x
at_seam [] x below = refl
at_seam (a ∷ above) x below = at_seam above x below

-- an element past the seam is one of those below it
pub past_seam : {X : Type 0} (above : List X) (x : X) (below : List X) (n : ℕ) (y : X)
    → slice_get (above ++ x ∷ below) n ≡ Some y → length above < n → (k : ℕ) × (slice_get below k ≡ Some y)
past_seam [] x below zero y is lt = absurd (omega (arith, lt))
past_seam [] x below (suc n) y is lt = (n, is)
past_seam (a ∷ above) x below zero y is lt = absurd (omega (arith, lt))
past_seam (a ∷ above) x below (suc n) y is lt = past_seam above x below n y is (omega (arith, lt))

-- an element of the values
pub mapped_at : {X Y : Type 0} (f : X → Y) (xs : List X) (k : ℕ) (x : X) → slice_get xs k ≡ Some x
    → slice_get (map f xs) k ≡ Some (f x)
mapped_at f xs k x is = slice_get-map f xs k ∙ ap (option_map f) is

-- what holds of each element holds of one of them
pub one_of : {X : Type 0} (P : X → Type 0) (xs : List X) (k : ℕ) (x : X) → All P xs → slice_get xs k ≡ Some x → P x
one_of P xs k x all is =
    subst P (get_or_from_slice_get xs k x x is) (all k x (slice_get_within xs k x is))

-- two elements at one index are one
pub same_element : {X : Type 0} (o : Option X) (x y : X) → o ≡ Some x → o ≡ Some y → x ≡ y
same_element o x y a b = of_some (sym a ∙ b)
  where
    of_some : Some x ≡ Some y → x ≡ y
    of_some e = cc
