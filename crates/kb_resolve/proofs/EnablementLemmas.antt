-- Contributions that a table of enablements takes in load order.
use Rattle.std.proofs.Common.{◌≡◌, ℕ, List, [], ◌∷◌, Bool, true, false, cond, Option, Some, None, is_some}
use Rattle.std.proofs.Common.{refl, sym, ap, ◌∙◌, unwrap_or}
use Rattle.std.specs.Ordering.{nat_cmp, eq_by_cmp}
use Rattle.std.specs.Cmp.Lexicographic.{slice_cmp}
use Rattle.std.specs.FinMap.{FinMap, get, insert, empty, contains_key, get-insert, get-empty}
use Rattle.std.specs.Str.{bytes_eq}
use Rattle.std.proofs.lemmas.Cmp.{nat_list_cmp_total}
use Rattle.std.proofs.lemmas.Map.Text.{is_eq-slice_cmp}
use Rattle.std.proofs.lemmas.Slice.Eq.{bytes_eq-Decides}
use Rattle.kb_base.specs.TextMap.{filled}
use Rattle.kb_when.specs.Marks.{MarkedClause}

no_value : {A : Type 0} (o : Option A) → is_some o ≡ false → o ≡ None
no_value None e = refl
no_value (Some x) e = absurd (let no : true ≡ false = e in cc)

-- what a key has stays, where the test holds of a key that is there alone
stays : {A : Type 0} (o : Option A) (b : Bool) (v : A) → (b ≡ true → is_some o ≡ true) → o ≡ filled o b v
stays (Some x) b v h = refl
stays None false v h = refl
stays None true v h = absurd (let no : false ≡ true = h refl in cc)

-- a key that is new gets its value
gets : {A : Type 0} (o : Option A) (b : Bool) (v : A) → (b ≡ true → o ≡ None)
    → cond b (Some v) o ≡ filled o b v
gets o true v h = sym (ap (λ p. filled p true v) (h refl))
gets (Some x) false v h = refl
gets None false v h = refl

module _ {A : Type 0} (m : FinMap (slice_cmp nat_cmp) A) (k : List ℕ) (v : A) (q : List ℕ) where
  pub kept : contains_key m k ≡ true → get m q ≡ filled (get m q) (bytes_eq q k) v
  kept there = stays (get m q) (bytes_eq q k) v
      (λ e. ap is_some (ap (get m) ((bytes_eq-Decides q k).0 e)) ∙ there)

  pub added : (n : FinMap (slice_cmp nat_cmp) A) → contains_key m k ≡ false → n ≡ insert m k v
      → get n q ≡ filled (get m q) (bytes_eq q k) v
  added n new is =
      ap (λ t. get t q) is ∙ get-insert nat_list_cmp_total m k v q
      ∙ ap (λ (b : Bool). cond b (Some v) (get m q)) (is_eq-slice_cmp q k)
      ∙ gets (get m q) (bytes_eq q k) v (λ e. ap (get m) ((bytes_eq-Decides q k).0 e) ∙ no_value _ new)

-- what a table has, or else what is left of the contributions: one of these more in the table
pub first_counts : (o : Option (Option MarkedClause)) (b : Bool) (one rest : Option MarkedClause)
    → unwrap_or (filled o b one) rest ≡ unwrap_or o (cond b one rest)
first_counts (Some x) b one rest = refl
first_counts None true one rest = refl
first_counts None false one rest = refl

-- an empty table has nothing
pub none_yet : {A : Type 0} (t : FinMap (slice_cmp nat_cmp) (Option A)) → t ≡ empty
    → (q : List ℕ) (rest : Option A) → unwrap_or (get t q) rest ≡ rest
none_yet t is q rest =
    ap (λ m. unwrap_or (get m q) rest) is
    ∙ ap (λ o. unwrap_or o rest) (get-empty (slice_cmp nat_cmp) q)
