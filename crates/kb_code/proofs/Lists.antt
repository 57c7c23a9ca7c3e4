-- Lemmas on lists and tables.
use Rattle.std.proofs.Common.{◌≡◌, ◌<◌, ◌≤◌, ◌-◌, ℕ, zero, suc, List, [], ◌∷◌, ◌++◌, length, take, drop, reverse, get_or}
use Rattle.std.proofs.Common.{Some, refl, sym, ap, ◌∙◌, arith}
use Rattle.std.specs.Prelude.{slice_get, slice_index_or}
use Rattle.std.proofs.lemmas.List.{reverse-append}
use Rattle.std.proofs.Math.Seq.{take-suc}
use Rattle.kb_code.specs.Blocks.{closed, outermost}

outermost_last : (around : List ℕ) (q : ℕ) → outermost (around ++ q ∷ []) ≡ Some q
outermost_last [] q = refl
outermost_last (r ∷ []) q = refl
outermost_last (r ∷ s ∷ around) q = outermost_last (s ∷ around) q

pub bottom_is : (xs : List ℕ) (n : ℕ) → 0 < n → 0 < length xs →
    Some (slice_index_or xs 0 0) ≡ outermost (reverse (take n xs))
bottom_is [] n some l = absurd (omega (arith, l))
bottom_is (x ∷ xs) zero some l = absurd (omega (arith, some))
bottom_is (x ∷ xs) (suc n) some l =
    sym (ap outermost (reverse-append (x ∷ []) (take n xs)) ∙ outermost_last (reverse (take n xs)) x)

-- what is behind a place begins with what stands there
pub drop_at : {X : Type 0} (xs : List X) (p : ℕ) (x : X) → slice_get xs p ≡ Some x →
    drop p xs ≡ x ∷ drop (suc p) xs
drop_at [] p x e = absurd (cc)
drop_at (y ∷ xs) zero x e = let s : y ≡ x = cc in ap (λ z. z ∷ xs) s
drop_at (y ∷ xs) (suc p) x e = drop_at xs p x e

-- without the last of those that are taken
pub closed_taken : (xs : List ℕ) (n : ℕ) → 0 < n → n ≤ length xs → reverse (take (n - 1) xs) ≡ closed (reverse (take n xs))
closed_taken xs zero some le = absurd (omega (arith, some))
closed_taken xs (suc n) some le =
    let e : suc n - 1 ≡ n = omega arith in
    ap (λ k. reverse (take k xs)) e
    ∙ sym (ap closed (ap reverse (take-suc xs n 0 (omega (arith, le)))
    ∙ reverse-append (take n xs) (get_or xs n 0 ∷ [])))
