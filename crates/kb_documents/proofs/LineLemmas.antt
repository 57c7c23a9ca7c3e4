-- The lines that begin up to an index, and where a line ends.
use Rattle.std.proofs.Common.{◌≡◌, ◌∙◌, ◌++◌, ◌<◌, ◌≤◌, ◌+◌, ◌-◌, ℕ, zero, suc, List, [], ◌∷◌, Bool, true, false}
use Rattle.std.proofs.Common.{ap, append-nil, append_assoc, arith, cond, get_or, leb, length, length-append, refl, subst, sym}
use Rattle.std.proofs.Math.ListN.{get_or-append}
use Rattle.std.proofs.lemmas.Option.{get_or_from_slice_get, slice_get_within}
use Rattle.std.specs.Prelude.{All, filter}
use Rattle.std.specs.List.Sorted.{IsNonDecreasingBy, IsPartitionPoint}
use Rattle.std.proofs.lemmas.Bool.{le-leb, lt-leb}
use Rattle.std.proofs.lemmas.List.Elements.{All-push, filter-append}
use Rattle.std.proofs.lemmas.List.Sorted.{IsNonDecreasingBy-push, IsNonDecreasingBy-short}
use Rattle.std.specs.Prelude.{Some, slice_get}
use Rattle.kb_documents.specs.Lines.{begins, line_of, starts, starts_below, IsLineOf}

-- ---- a partition point counts what passes

counted : (p : ℕ → Bool) (xs : List ℕ) (i : ℕ) → i ≤ length xs
    → IsPartitionPoint (λ y. p y ≡ true) (λ y. p y ≡ false) xs i → length (filter p xs) ≡ i
counted p [] zero fits point = refl
counted p [] (suc i) fits point = absurd (omega (arith, fits))
counted p (x ∷ xs) zero fits point =
    let fails : p x ≡ false = point.1 0 x (omega arith) (omega arith) in
    let rest = counted p xs zero (omega arith) (
      (λ k d low high. absurd (omega (arith, high))),
      (λ k d low high. point.1 (suc k) d (omega arith) (omega (arith, high))),
    ) in
    ap (λ (b : Bool). length (cond b (x ∷ filter p xs) (filter p xs))) fails ∙ rest
counted p (x ∷ xs) (suc i) fits point =
    let holds : p x ≡ true = point.0 0 x (omega arith) (omega arith) in
    let rest = counted p xs i (omega (arith, fits)) (
      (λ k d low high. point.0 (suc k) d (omega arith) (omega (arith, high))),
      (λ k d low high. point.1 (suc k) d (omega (arith, low)) (omega (arith, high))),
    ) in
    ap (λ (b : Bool). length (cond b (x ∷ filter p xs) (filter p xs))) holds ∙ ap (λ (n : ℕ). suc n) rest

-- ---- the beginnings up to an index

one_kept : (p : ℕ → Bool) (n : ℕ) (b : Bool) → p n ≡ true → filter p (cond b (n ∷ []) []) ≡ cond b (n ∷ []) []
one_kept p n true e = ap (λ (c : Bool). cond c (n ∷ []) []) e
one_kept p n false e = refl

one_left : (p : ℕ → Bool) (n : ℕ) (b : Bool) → p n ≡ false → filter p (cond b (n ∷ []) []) ≡ []
one_left p n true e = ap (λ (c : Bool). cond c (n ∷ []) []) e
one_left p n false e = refl

module _ (text : List ℕ) where
  all_below : (n : ℕ) → All (λ s. s < n) (starts_below text n)
  unfolding starts_below
  all_below zero = λ k d below. absurd (omega (arith, below))
  all_below (suc n) = onto (λ k d below. omega (arith, all_below n k d below)) (begins text n)
    where
      onto : All (λ s. s < suc n) (starts_below text n) → (b : Bool)
          → All (λ s. s < suc n) (starts_below text n ++ cond b (n ∷ []) [])
      onto before true = All-push (λ s. s < suc n) (starts_below text n) n before (omega arith)
      onto before false = subst (All (λ s. s < suc n)) (sym (append-nil (starts_below text n))) before

  pub rising : (n : ℕ) → IsNonDecreasingBy (λ s. s) (starts_below text n)
  unfolding starts_below
  rising zero = IsNonDecreasingBy-short (λ s. s) [] (omega arith)
  rising (suc n) = onto (rising n) (begins text n)
    where
      onto : IsNonDecreasingBy (λ s. s) (starts_below text n) → (b : Bool)
          → IsNonDecreasingBy (λ s. s) (starts_below text n ++ cond b (n ∷ []) [])
      onto before true = IsNonDecreasingBy-push (λ s. s) (starts_below text n) n before
          (λ d some. let low : get_or (starts_below text n) (length (starts_below text n) - 1) d < n =
          all_below n (length (starts_below text n) - 1) d (omega (arith, some)) in omega (arith, low))
      onto before false = subst (IsNonDecreasingBy (λ s. s)) (sym (append-nil (starts_below text n))) before

  all_kept : (index n : ℕ) → n ≤ index + 1 → filter (λ s. leb s index) (starts_below text n) ≡ starts_below text n
  unfolding starts_below
  all_kept index zero few = refl
  all_kept index (suc n) few =
      filter-append (λ s. leb s index) (starts_below text n) (cond (begins text n) (n ∷ []) [])
      ∙ ap (λ l. l ++ filter (λ s. leb s index) (cond (begins text n) (n ∷ []) [])) (all_kept index n (omega (arith, few)))
      ∙ ap (λ l. starts_below text n ++ l)
      (one_kept (λ s. leb s index) n (begins text n) (le-leb n index (omega (arith, few))))

  kept : (index n : ℕ) → filter (λ s. leb s index) (starts_below text (index + 1 + n)) ≡ starts_below text (index + 1)
  unfolding starts_below
  kept index zero =
      let e : index + 1 ≡ index + 1 + 0 = omega arith in
      subst (λ m. filter (λ s. leb s index) (starts_below text m) ≡ starts_below text (index + 1)) e
      (all_kept index (index + 1) (omega arith))
  kept index (suc n) =
      let m = index + 1 + n in
      let e : suc m ≡ index + 1 + suc n = omega arith in
      subst (λ k. filter (λ s. leb s index) (starts_below text k) ≡ starts_below text (index + 1)) e
      (filter-append (λ s. leb s index) (starts_below text m) (cond (begins text m) (m ∷ []) [])
      ∙ ap (λ l. l ++ filter (λ s. leb s index) (cond (begins text m) (m ∷ []) [])) (kept index n)
      ∙ ap (λ l. starts_below text (index + 1) ++ l)
      (one_left (λ s. leb s index) m (begins text m) (lt-leb m index (omega arith)))
      ∙ append-nil (starts_below text (index + 1)))

  -- the partition point of all beginnings is the number of those up to the index
  pub point_is : (index point : ℕ) → index ≤ length text → point ≤ length (starts text)
      → IsPartitionPoint (λ s. leb s index ≡ true) (λ s. leb s index ≡ false) (starts text) point
      → point ≡ length (starts_below text (index + 1))
  point_is index point within fits is =
      let n = length text - index in
      let e : index + 1 + n ≡ length text + 1 = omega (arith, within) in
      sym (counted (λ s. leb s index) (starts text) point fits is)
      ∙ ap (λ m. length (filter (λ s. leb s index) (starts_below text m))) (sym e)
      ∙ ap (λ (l : List ℕ). length l) (kept index n)

-- one index more
pub next_begin : (text : List ℕ) (n : ℕ) (starts : List ℕ) (b : Bool) → starts ≡ starts_below text n
    → b ≡ begins text n → starts ++ cond b (n ∷ []) [] ≡ starts_below text (n + 1)
unfolding starts_below
next_begin text n starts b same is =
    let e : suc n ≡ n + 1 = omega arith in
    subst (λ m. starts ++ cond b (n ∷ []) [] ≡ starts_below text m) e
    (ap (λ (l : List ℕ). l ++ cond b (n ∷ []) []) same
    ∙ ap (λ (c : Bool). starts_below text n ++ cond c (n ∷ []) []) is)

pub first_begins : (text starts : List ℕ) → starts ≡ [] → starts ≡ starts_below text 0
unfolding starts_below
first_begins text starts e = e

pub none_begins : (text : List ℕ) (n : ℕ) (starts : List ℕ) (b : Bool) → starts ≡ starts_below text n
    → b ≡ begins text n → b ≡ false → starts ≡ starts_below text (n + 1)
none_begins text n starts b same is fails =
    sym (append-nil starts) ∙ ap (λ (c : Bool). starts ++ cond c (n ∷ []) []) (sym fails)
    ∙ next_begin text n starts b same is

pub one_begins : (text : List ℕ) (n : ℕ) (starts made : List ℕ) (b : Bool) → starts ≡ starts_below text n
    → b ≡ begins text n → b ≡ true → made ≡ starts ++ n ∷ [] → made ≡ starts_below text (n + 1)
one_begins text n starts made b same is holds more =
    more ∙ ap (λ (c : Bool). starts ++ cond c (n ∷ []) []) (sym holds) ∙ next_begin text n starts b same is

pub ruleset beginning = (first_begins, none_begins, one_begins)

-- ---- the line of an index

module _ (text : List ℕ) where
  -- the beginnings from an index on
  pub further : ℕ → ℕ → List ℕ
  further m zero = []
  further m (suc n) = further m n ++ cond (begins text (m + n)) ((m + n) ∷ []) []

  pub more_starts : (m n : ℕ) → starts_below text (m + n) ≡ starts_below text m ++ further m n
  unfolding starts_below further
  more_starts m zero =
      let e : m + 0 ≡ m = omega arith in
      ap (starts_below text) e ∙ sym (append-nil (starts_below text m))
  more_starts m (suc n) =
      let e : m + suc n ≡ suc (m + n) = omega arith in
      ap (starts_below text) e
      ∙ ap (λ (l : List ℕ). l ++ cond (begins text (m + n)) ((m + n) ∷ []) []) (more_starts m n)
      ∙ append_assoc (starts_below text m) (further m n) (cond (begins text (m + n)) ((m + n) ∷ []) [])

  pub none_further : (m n : ℕ) → ((k : ℕ) → k < n → begins text (m + k) ≡ false) → further m n ≡ []
  unfolding further
  none_further m zero none = refl
  none_further m (suc n) none =
      ap (λ (b : Bool). further m n ++ cond b ((m + n) ∷ []) []) (none n (omega arith))
      ∙ append-nil (further m n)
      ∙ none_further m n (λ k below. none k (omega (arith, below)))

  pub some_starts : (n : ℕ) → 0 < length (starts_below text (n + 1))
  unfolding starts_below
  some_starts n =
      let e : n + 1 ≡ 1 + n = omega arith in
      let all = ap (starts_below text) e ∙ more_starts 1 n in
      omega (arith, ap length all, length-append (0 ∷ []) (further 1 n))

  -- the beginnings up to an index come first
  first_starts : (index : ℕ) → index ≤ length text
      → starts text ≡ starts_below text (index + 1) ++ further (index + 1) (length text - index)
  first_starts index within =
      let e : length text + 1 ≡ index + 1 + (length text - index) = omega (arith, within) in
      ap (starts_below text) e ∙ more_starts (index + 1) (length text - index)

  -- the beginning of the line of an index is the last one up to it
  pub start_is : (index line : ℕ) → index ≤ length text → line < length (starts_below text (index + 1))
      → get_or (starts text) line 0 ≡ get_or (starts_below text (index + 1)) line 0
  start_is index line within here =
      let up_to = starts_below text (index + 1) in
      ap (λ (l : List ℕ). get_or l line 0) (first_starts index within)
      ∙ get_or-append up_to (further (index + 1) (length text - index)) 0 line here

  pub is_line_of : (index line : ℕ) → index ≤ length text → line ≡ line_of text index → IsLineOf text index line
  is_line_of index line within is =
      let up_to = starts_below text (index + 1) in
      let all = first_starts index within in
      let some = some_starts index in
      let here : line < length up_to = omega (arith, is, some) in
      record {
        number = is;
        there = omega (arith, here, ap length all, length-append up_to (further (index + 1) (length text - index)));
        begins_before =
            let same = start_is index line within here in
            let low : get_or up_to line 0 < index + 1 = all_below text (index + 1) line 0 here in
            omega (arith, same, low);
      }

  pub start_within : (line begin : ℕ) → Some begin ≡ slice_get (starts text) line → begin ≤ length text
  start_within line begin e =
      let there = slice_get_within (starts text) line begin (sym e) in
      let is = get_or_from_slice_get (starts text) line begin 0 (sym e) in
      let low : get_or (starts text) line 0 < length text + 1 = all_below text (length text + 1) line 0 there in
      omega (arith, is, low)
