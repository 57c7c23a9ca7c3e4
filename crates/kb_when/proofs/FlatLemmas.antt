-- Jumps that extend other jumps, and evaluation by one jump.
use Rattle.std.proofs.Common.{◌≡◌, ℕ, zero, suc, ◌+◌, ◌-◌, ◌<◌, ◌≤◌, List, [], ◌∷◌, ◌++◌, Bool, true, false}
use Rattle.std.proofs.Common.{cond, length, Option, Some, slice_get, ◌⊎◌, inl, inr, ⊎_elim, refl, sym, ◌∙◌, ap}
use Rattle.std.proofs.Common.{subst, arith, length-append}
use Rattle.std.specs.Prelude.{nat_eq, ◌||◌}
use Rattle.std.specs.List.{list_any}
use Rattle.std.proofs.lemmas.List.Folds.{list_any-append}
use Rattle.std.proofs.lemmas.Bool.Decides.{nat_tests}
use Rattle.kb_context.specs.Scopes.{Keys}
use Rattle.kb_when.specs.declared.jump.Jump.{Jump}
use Rattle.kb_when.specs.Leaf.{marked_of_leaf}
use Rattle.kb_when.specs.Marked.{Marked}
use Rattle.kb_when.specs.Flat.{atom_holds, has_read_pattern, target, target_or, accepts_by, accepts}
use Rattle.kb_when.specs.Flat.{LeadsBack, Extends}

is_not : (p n : ℕ) → p < n + 2 → nat_eq p (n + 2) ≡ false
is_not p n h = grind (arith, nat_tests)

is_it : (n : ℕ) → nat_eq (n + 2) (n + 2) ≡ true
is_it n = grind (arith, nat_tests)

-- ---- one more jump

-- jumps above a place don't matter
accepts_at : (js : List Jump) (c : Keys) (n k m p : ℕ) → m ≡ k + n → p < n + 2
    → accepts_by js c m p ≡ accepts_by js c n p
accepts_at js c n zero m p e h =
    let same : m ≡ n = omega arith in ap (λ (x : ℕ). accepts_by js c x p) same
accepts_at js c n (suc k) zero p e h = absurd (omega arith)
accepts_at js c n (suc k) (suc m) p e h =
    ap (λ (b : Bool). accepts_by js c m (cond b (target_or c (slice_get js m) p) p))
    (is_not p m (omega arith))
    ∙ accepts_at js c n k m p (omega arith) h

get_front : (a b : List Jump) (n : ℕ) → n < length a → slice_get (a ++ b) n ≡ slice_get a n
get_front [] b n h = absurd (omega arith)
get_front (x ∷ a) b zero h = refl
get_front (x ∷ a) b (suc n) h = get_front a b n (omega arith)

accepts_front : (a b : List Jump) (c : Keys) (n p : ℕ) → n ≤ length a
    → accepts_by (a ++ b) c n p ≡ accepts_by a c n p
accepts_front a b c zero p h = refl
accepts_front a b c (suc n) p h =
    accepts_front a b c n _ (omega arith)
    ∙ ap (λ (o : Option Jump). accepts_by a c n (cond (nat_eq p (n + 2)) (target_or c o p) p))
    (get_front a b n (omega arith))

get_last : (a : List Jump) (j : Jump) → slice_get (a ++ j ∷ []) (length a) ≡ Some j
get_last [] j = refl
get_last (x ∷ a) j = get_last a j

one_more : (a : List Jump) (j : Jump) → length (a ++ j ∷ []) ≡ suc (length a)
one_more a j = omega (arith, length-append a (j ∷ []))

either : (old : List Jump) (c : Keys) (n hit miss : ℕ) (b : Bool)
    → accepts_by old c n (cond b hit miss) ≡ cond b (accepts_by old c n hit) (accepts_by old c n miss)
either old c n hit miss true = refl
either old c n hit miss false = refl

last_or_front : (old : List Jump) (j : Jump) (i : ℕ) (k : Jump) → slice_get (old ++ j ∷ []) i ≡ Some k
    → ((i ≡ length old) × (j ≡ k)) ⊎ (slice_get old i ≡ Some k)
last_or_front [] j zero k e = inl (refl, cc)
last_or_front [] j (suc i) k e = cc
last_or_front (x ∷ old) j zero k e = inr e
last_or_front (x ∷ old) j (suc i) k e =
    ⊎_elim (λ h. inl (ap suc h.0, h.1)) (λ h. inr h) (last_or_front old j i k e)

back_more : (old : List Jump) (j : Jump) → j.yes < length old + 2 → j.no < length old + 2 → LeadsBack old
    → LeadsBack (old ++ j ∷ [])
back_more old j y n h i k e = ⊎_elim
    (λ q. subst (λ (x : Jump). (x.yes < i + 2) × (x.no < i + 2)) q.1 (omega (arith, q.0), omega (arith, q.0)))
    (λ q. h i k q) (last_or_front old j i k e)

or_turned : (a b : Bool) → (b || (a || false)) ≡ (a || b)
or_turned true true = refl
or_turned true false = refl
or_turned false true = refl
or_turned false false = refl

extends_jump : (old : List Jump) (j : Jump) → j.yes < length old + 2 → j.no < length old + 2
    → Extends old (old ++ j ∷ []) (marked_of_leaf j.atom.value) j.yes j.no (length old + 2)
extends_jump old j y n = record {
  inside = omega (arith, one_more old j);
  means = λ c.
      ap (λ (x : ℕ). accepts_by (old ++ j ∷ []) c x (length old + 2)) (one_more old j)
      ∙ ap (λ (b : Bool). accepts_by (old ++ j ∷ []) c (length old)
      (cond b (target_or c (slice_get (old ++ j ∷ []) (length old)) (length old + 2)) (length old + 2)))
      (is_it (length old))
      ∙ ap (λ (o : Option Jump). accepts_by (old ++ j ∷ []) c (length old) (target_or c o (length old + 2)))
      (get_last old j)
      ∙ accepts_front old (j ∷ []) c (length old) _ (omega arith)
      ∙ either old c (length old) j.yes j.no (atom_holds c j);
  keeps = λ c q h.
      accepts_at (old ++ j ∷ []) c (length old) 1 (length (old ++ j ∷ [])) q (omega (arith, one_more old j)) h
      ∙ accepts_front old (j ∷ []) c (length old) q (omega arith);
  grows = omega (arith, one_more old j);
  back = back_more old j y n;
  patterns = list_any-append has_read_pattern old (j ∷ [])
      ∙ or_turned (has_read_pattern j) (list_any has_read_pattern old);
}

pub extends_atom : (old new : List Jump) (j : Jump) (m : Marked) (place : ℕ) → new ≡ old ++ j ∷ []
    → m ≡ marked_of_leaf j.atom.value → place ≡ length old + 2 → j.yes < length old + 2
    → j.no < length old + 2 → Extends old new m j.yes j.no place
extends_atom old new j m place p q r y n =
    let P : List Jump → Type 0 = λ x. Extends old x m j.yes j.no place in
    let Q : Marked → Type 0 = λ x. Extends old (old ++ j ∷ []) x j.yes j.no place in
    let R : ℕ → Type 0 = λ x. Extends old (old ++ j ∷ []) (marked_of_leaf j.atom.value) j.yes j.no x in
    subst P (sym p) (subst Q (sym q) (subst R (sym r) (extends_jump old j y n)))

-- ---- evaluation

jumps_from : (js : List Jump) (c : Keys) (i : ℕ) (j : Jump) → LeadsBack js → slice_get js i ≡ Some j
    → i < length js → accepts js c (i + 2) ≡ accepts js c (target c j)
jumps_from js c i j back is h =
    accepts_at js c (suc i) (length js - suc i) (length js) (i + 2) (omega arith) (omega arith)
    ∙ ap (λ (b : Bool). accepts_by js c i (cond b (target_or c (slice_get js i) (i + 2)) (i + 2))) (is_it i)
    ∙ ap (λ (o : Option Jump). accepts_by js c i (target_or c o (i + 2))) is
    ∙ sym (accepts_at js c i (length js - i) (length js) (target c j) (omega arith) (low (atom_holds c j)))
  where
    low : (b : Bool) → cond b j.yes j.no < i + 2
    low true = (back i j is).0
    low false = (back i j is).1

pub jumps_at : (js : List Jump) (c : Keys) (at i : ℕ) (j : Jump) → LeadsBack js → at ≡ i + 2
    → slice_get js i ≡ Some j → i < length js → accepts js c (target c j) ≡ accepts js c at
jumps_at js c at i j back e is h = sym (ap (accepts js c) e ∙ jumps_from js c i j back is h)

pub lower : (js : List Jump) (c : Keys) (at i : ℕ) (j : Jump) → LeadsBack js → at ≡ i + 2
    → slice_get js i ≡ Some j → target c j < at
lower js c at i j back e is = low (atom_holds c j)
  where
    low : (b : Bool) → cond b j.yes j.no < at
    low true = omega (arith, (back i j is).0)
    low false = omega (arith, (back i j is).1)

pub stops : (js : List Jump) (c : Keys) (at : ℕ) → at < 2 → nat_eq at 0 ≡ accepts js c at
stops js c at h = sym (accepts_at js c 0 (length js) (length js) at (omega arith) (omega arith))
