-- That each key's hash keeps a mark.
use Rattle.std.proofs.Common.{◌≡◌, ℕ, List, Bool, true, false, cond, Option, Some, None, is_some, length, refl}
use Rattle.std.proofs.Common.{sym, ◌∙◌, ap}
use Rattle.std.specs.Ordering.{nat_cmp, eq_by_cmp}
use Rattle.std.specs.Cmp.Lexicographic.{slice_cmp}
use Rattle.std.specs.FinMap.{FinMap, get, insert, remove, empty, get-insert, get-remove, get-empty}
use Rattle.std.proofs.lemmas.Cmp.{nat_list_cmp_total}
use Rattle.std.proofs.lemmas.Map.Text.{is_eq-slice_cmp}
use Rattle.std.proofs.lemmas.Slice.Eq.{bytes_eq-Decides}
use Rattle.kb_base.specs.HashedMap.{HasMarks, is_marked}
use Rattle.kb_base.specs.HashedText.{hash_of}

no_none : {A P : Type 0} (o : Option A) → o ≡ None → is_some o ≡ true → P
no_none None e there = absurd (let no : false ≡ true = there in cc)
no_none (Some x) e there = absurd (cc)

module _ {M V : Type 0} where
  pub marks_of_none : (m : FinMap (slice_cmp nat_cmp) V) (marks : List (Option M)) → m ≡ empty
      → length marks ≡ 1024 → HasMarks m marks
  marks_of_none m marks none room = record {
    room = room;
    marked = λ key there. no_none (get m key) (ap (λ n. get n key) none ∙ get-empty (slice_cmp nat_cmp) key) there;
  }

  module _ (m n : FinMap (slice_cmp nat_cmp) V) (k : List ℕ) (marks : List (Option M)) (has : HasMarks m marks) where
    removed_case : (q : List ℕ) (b : Bool) → is_some (cond b None (get m q)) ≡ true
        → is_marked marks (hash_of q) ≡ true
    removed_case q true there = let gone : Option V = None in no_none gone refl there
    removed_case q false there = has.marked q there

    pub marks_of_removed : n ≡ remove m k → HasMarks n marks
    marks_of_removed is = record {
      room = has.room;
      marked = λ q there. removed_case q (eq_by_cmp (slice_cmp nat_cmp) q k)
          (sym (ap is_some (ap (λ t. get t q) is ∙ get-remove nat_list_cmp_total m k q)) ∙ there);
    }

    module _ (v : V) (more : List (Option M)) (there : is_marked more (hash_of k) ≡ true)
        (kept : (other : ℕ) → is_marked marks other ≡ true → is_marked more other ≡ true) where
      inserted_case : (q : List ℕ) (b : Bool) → (b ≡ true → q ≡ k) → is_some (cond b (Some v) (get m q)) ≡ true
          → is_marked more (hash_of q) ≡ true
      inserted_case q true same _ = ap (λ t. is_marked more (hash_of t)) (same refl) ∙ there
      inserted_case q false same had = kept (hash_of q) (has.marked q had)

      pub marks_of_inserted : n ≡ insert m k v → length more ≡ length marks → HasMarks n more
      marks_of_inserted is room = record {
        room = room ∙ has.room;
        marked = λ q had. inserted_case q (eq_by_cmp (slice_cmp nat_cmp) q k)
            (λ e. (bytes_eq-Decides q k).0 (sym (is_eq-slice_cmp q k) ∙ e))
            (sym (ap is_some (ap (λ t. get t q) is ∙ get-insert nat_list_cmp_total m k v q)) ∙ had);
      }
