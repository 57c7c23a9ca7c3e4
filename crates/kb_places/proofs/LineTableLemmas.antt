-- How many lines begin up to an index.
use Rattle.std.proofs.Common.{◌≡◌, ◌∙◌, ◌++◌, ◌<◌, ◌≤◌, ◌+◌, ◌-◌, ℕ, zero, suc, List, [], ◌∷◌, Bool, true, false}
use Rattle.std.proofs.Common.{ap, append-nil, arith, cond, get_or, leb, length, refl, subst, sym}
use Rattle.std.specs.Prelude.{All, filter}
use Rattle.std.specs.List.Sorted.{IsNonDecreasingBy, IsPartitionPoint}
use Rattle.std.proofs.lemmas.Bool.{le-leb, lt-leb}
use Rattle.std.proofs.lemmas.List.Elements.{All-push, filter-append}
use Rattle.std.proofs.lemmas.List.Sorted.{IsNonDecreasingBy-push, IsNonDecreasingBy-short}
use Rattle.kb_places.specs.Lines.{begins_below, begins_line}

-- ---- a partition point counts what passes

counted : (p : ℕ → Bool) (xs : List ℕ) (i : ℕ) → i ≤ length xs
    → IsPartitionPoint (λ y. p y ≡ true) (λ y. p y ≡ false) xs i → length (filter p xs) ≡ i
counted p [] zero fits point = refl
counted p [] (suc i) fits point = absurd (omega (arith, fits))
counted p (x ∷ xs) zero fits point =
    let fails : p x ≡ false = point.1 0 x (omega arith) (omega arith) in
    let rest = counted p xs zero (omega arith) (
      (λ k d low high. absurd (omega (arith, high))),
      (λ k d low high. point.1 (suc k) d (omega arith) (omega (arith, high))),
    ) in
    ap (λ (b : Bool). length (cond b (x ∷ filter p xs) (filter p xs))) fails ∙ rest
counted p (x ∷ xs) (suc i) fits point =
    let holds : p x ≡ true = point.0 0 x (omega arith) (omega arith) in
    let rest = counted p xs i (omega (arith, fits)) (
      (λ k d low high. point.0 (suc k) d (omega arith) (omega (arith, high))),
      (λ k d low high. point.1 (suc k) d (omega (arith, low)) (omega (arith, high))),
    ) in
    ap (λ (b : Bool). length (cond b (x ∷ filter p xs) (filter p xs))) holds ∙ ap (λ (n : ℕ). suc n) rest

-- ---- the beginnings up to an index

one_kept : (p : ℕ → Bool) (n : ℕ) (b : Bool) → p n ≡ true → filter p (cond b (n ∷ []) []) ≡ cond b (n ∷ []) []
one_kept p n true e = ap (λ (c : Bool). cond c (n ∷ []) []) e
one_kept p n false e = refl

one_left : (p : ℕ → Bool) (n : ℕ) (b : Bool) → p n ≡ false → filter p (cond b (n ∷ []) []) ≡ []
one_left p n true e = ap (λ (c : Bool). cond c (n ∷ []) []) e
one_left p n false e = refl

module _ (text : List ℕ) where
  all_below : (n : ℕ) → All (λ s. s < n) (begins_below text n)
  unfolding begins_below
  all_below zero = λ k d below. absurd (omega (arith, below))
  all_below (suc n) = onto (λ k d below. omega (arith, all_below n k d below)) (begins_line text n)
    where
      onto : All (λ s. s < suc n) (begins_below text n) → (b : Bool)
          → All (λ s. s < suc n) (begins_below text n ++ cond b (n ∷ []) [])
      onto before true = All-push (λ s. s < suc n) (begins_below text n) n before (omega arith)
      onto before false = subst (All (λ s. s < suc n)) (sym (append-nil (begins_below text n))) before

  pub rising : (n : ℕ) → IsNonDecreasingBy (λ s. s) (begins_below text n)
  unfolding begins_below
  rising zero = IsNonDecreasingBy-short (λ s. s) [] (omega arith)
  rising (suc n) = onto (rising n) (begins_line text n)
    where
      onto : IsNonDecreasingBy (λ s. s) (begins_below text n) → (b : Bool)
          → IsNonDecreasingBy (λ s. s) (begins_below text n ++ cond b (n ∷ []) [])
      onto before true = IsNonDecreasingBy-push (λ s. s) (begins_below text n) n before
          (λ d some. let low : get_or (begins_below text n) (length (begins_below text n) - 1) d < n =
          all_below n (length (begins_below text n) - 1) d (omega (arith, some)) in omega (arith, low))
      onto before false = subst (IsNonDecreasingBy (λ s. s)) (sym (append-nil (begins_below text n))) before

  all_kept : (index n : ℕ) → n ≤ index + 1 → filter (λ s. leb s index) (begins_below text n) ≡ begins_below text n
  unfolding begins_below
  all_kept index zero few = refl
  all_kept index (suc n) few =
      filter-append (λ s. leb s index) (begins_below text n) (cond (begins_line text n) (n ∷ []) [])
      ∙ ap (λ l. l ++ filter (λ s. leb s index) (cond (begins_line text n) (n ∷ []) [])) (all_kept index n (omega (arith, few)))
      ∙ ap (λ l. begins_below text n ++ l)
      (one_kept (λ s. leb s index) n (begins_line text n) (le-leb n index (omega (arith, few))))

  kept : (index n : ℕ) → filter (λ s. leb s index) (begins_below text (index + 1 + n)) ≡ begins_below text (index + 1)
  unfolding begins_below
  kept index zero =
      let e : index + 1 ≡ index + 1 + 0 = omega arith in
      subst (λ m. filter (λ s. leb s index) (begins_below text m) ≡ begins_below text (index + 1)) e
      (all_kept index (index + 1) (omega arith))
  kept index (suc n) =
      let m = index + 1 + n in
      let e : suc m ≡ index + 1 + suc n = omega arith in
      subst (λ k. filter (λ s. leb s index) (begins_below text k) ≡ begins_below text (index + 1)) e
      (filter-append (λ s. leb s index) (begins_below text m) (cond (begins_line text m) (m ∷ []) [])
      ∙ ap (λ l. l ++ filter (λ s. leb s index) (cond (begins_line text m) (m ∷ []) [])) (kept index n)
      ∙ ap (λ l. begins_below text (index + 1) ++ l)
      (one_left (λ s. leb s index) m (begins_line text m) (lt-leb m index (omega arith)))
      ∙ append-nil (begins_below text (index + 1)))

  -- the partition point of all beginnings is the number of those up to the index
  pub point_is : (index point : ℕ) → index < length text → point ≤ length (begins_below text (length text))
      → IsPartitionPoint (λ s. leb s index ≡ true) (λ s. leb s index ≡ false) (begins_below text (length text)) point
      → point ≡ length (begins_below text (index + 1))
  point_is index point within fits is =
      let n = length text - (index + 1) in
      let e : index + 1 + n ≡ length text = omega (arith, within) in
      sym (counted (λ s. leb s index) (begins_below text (length text)) point fits is)
      ∙ ap (λ m. length (filter (λ s. leb s index) (begins_below text m))) (sym e)
      ∙ ap (λ (l : List ℕ). length l) (kept index n)

-- one index more
pub next_begin : (text : List ℕ) (n : ℕ) (starts : List ℕ) (b : Bool) → starts ≡ begins_below text n
    → b ≡ begins_line text n → starts ++ cond b (n ∷ []) [] ≡ begins_below text (n + 1)
unfolding begins_below
next_begin text n starts b same is =
    let e : suc n ≡ n + 1 = omega arith in
    subst (λ m. starts ++ cond b (n ∷ []) [] ≡ begins_below text m) e
    (ap (λ (l : List ℕ). l ++ cond b (n ∷ []) []) same
    ∙ ap (λ (c : Bool). begins_below text n ++ cond c (n ∷ []) []) is)

pub first_begins : (text starts : List ℕ) → starts ≡ [] → starts ≡ begins_below text 0
unfolding begins_below
first_begins text starts e = e

pub none_begins : (text : List ℕ) (n : ℕ) (starts : List ℕ) (b : Bool) → starts ≡ begins_below text n
    → b ≡ begins_line text n → b ≡ false → starts ≡ begins_below text (n + 1)
none_begins text n starts b same is fails =
    sym (append-nil starts) ∙ ap (λ (c : Bool). starts ++ cond c (n ∷ []) []) (sym fails)
    ∙ next_begin text n starts b same is

pub one_begins : (text : List ℕ) (n : ℕ) (starts made : List ℕ) (b : Bool) → starts ≡ begins_below text n
    → b ≡ begins_line text n → b ≡ true → made ≡ starts ++ n ∷ [] → made ≡ begins_below text (n + 1)
one_begins text n starts made b same is holds more =
    more ∙ ap (λ (c : Bool). starts ++ cond c (n ∷ []) []) (sym holds) ∙ next_begin text n starts b same is

pub ruleset beginning = (first_begins, none_begins, one_begins)
