-- The equality test returns true exactly if both clauses are the same.
use Rattle.std.proofs.Common.{◌≡◌, ℕ, suc, List, [], ◌∷◌, length, Bool, true, false, ◌&&◌, refl, ap, sym}
use Rattle.std.proofs.Common.{◌∙◌}
use Rattle.std.proofs.Common.{Decides, subst}
use Rattle.std.specs.Prelude.{ℤ}
use Rattle.std.specs.Str.{bytes_eq}
use Rattle.std.specs.Ordering.{int_eq}
use Rattle.std.proofs.lemmas.Bool.{false≢true}
use Rattle.std.proofs.lemmas.Bool.Decides.{Decides-int_eq}
use Rattle.std.proofs.lemmas.Slice.Eq.{bytes_eq-Decides}
use Rattle.kb_when.specs.declared.operator.Operator.{Operator}
use Rattle.kb_when.specs.declared.operator.Operator.TheVariants.{Below, AtMost, Above, AtLeast}
use Rattle.kb_when.specs.Operator.{operator_eq}
use Rattle.kb_when.specs.Clause.{Clause, always, never, key, equals, compare, matches, member, not_of}
use Rattle.kb_when.specs.Clause.{all_of, any_of, Clauses, no_clauses, clause}
use Rattle.kb_pattern.specs.Pattern.{same_truth, same_flags}
use Rattle.kb_pattern.specs.declared.flags.Flags.{Flags}
use Rattle.kb_when.specs.Tree.{clauses_of}
use Rattle.kb_when.specs.Same.{same, same_all, is_always, is_never, is_key, is_equals, is_compare}
use Rattle.kb_when.specs.Same.{is_matches, is_member}

both : (a b : Bool) → a && b ≡ true → (a ≡ true) × (b ≡ true)
both true b h = (refl, h)
both false b h = absurd (false≢true h)

of_op : (o p : Operator) → operator_eq o p ≡ true → o ≡ p
of_op Below Below h = refl
of_op AtMost AtMost h = refl
of_op Above Above h = refl
of_op AtLeast AtLeast h = refl
of_op Below _ h = absurd (false≢true h)
of_op AtMost _ h = absurd (false≢true h)
of_op Above _ h = absurd (false≢true h)
of_op AtLeast _ h = absurd (false≢true h)

same_op : (o : Operator) → operator_eq o o ≡ true
same_op Below = refl
same_op AtMost = refl
same_op Above = refl
same_op AtLeast = refl

of_bytes : (a b : List ℕ) → bytes_eq a b ≡ true → a ≡ b
of_bytes a b h = (bytes_eq-Decides a b).0 h

same_bytes : (a : List ℕ) → bytes_eq a a ≡ true
same_bytes a = (bytes_eq-Decides a a).1 refl

of_key : (k : List ℕ) (u : Clause) → is_key k u ≡ true → key k ≡ u
of_key k (key l) h = ap key (of_bytes k l h)
of_key k _ h = absurd (false≢true h)

of_always : (u : Clause) → is_always u ≡ true → always ≡ u
of_always always h = refl
of_always _ h = absurd (false≢true h)

of_never : (u : Clause) → is_never u ≡ true → never ≡ u
of_never never h = refl
of_never _ h = absurd (false≢true h)

of_equals : (k v : List ℕ) (u : Clause) → is_equals k v u ≡ true → equals k v ≡ u
of_equals k v (equals l w) h =
    let p = both (bytes_eq k l) (bytes_eq v w) h in
    λ i. equals (of_bytes k l p.0 i) (of_bytes v w p.1 i)
of_equals k v _ h = absurd (false≢true h)

of_truth : (b c : Bool) → same_truth b c ≡ true → b ≡ c
of_truth true true h = refl
of_truth false false h = refl
of_truth true false h = absurd (false≢true h)
of_truth false true h = absurd (false≢true h)

of_flags : (f g : Flags) → same_flags f g ≡ true → f ≡ g
of_flags f g h =
    let p = both (same_truth f.ignore_case g.ignore_case) _ h in
    let q = both (same_truth f.multi_line g.multi_line) (same_truth f.dot_all g.dot_all) p.1 in
    λ i. record {
      ignore_case = of_truth f.ignore_case g.ignore_case p.0 i;
      multi_line = of_truth f.multi_line g.multi_line q.0 i;
      dot_all = of_truth f.dot_all g.dot_all q.1 i;
    }

of_matches : (k v : List ℕ) (f : Flags) (u : Clause) → is_matches k v f u ≡ true → matches k v f ≡ u
of_matches k v f (matches l w g) h =
    let p = both (bytes_eq k l) (bytes_eq v w && same_flags f g) h in
    let q = both (bytes_eq v w) (same_flags f g) p.1 in
    λ i. matches (of_bytes k l p.0 i) (of_bytes v w q.0 i) (of_flags f g q.1 i)
of_matches k v f _ h = absurd (false≢true h)

same_truth_self : (b : Bool) → same_truth b b ≡ true
same_truth_self true = refl
same_truth_self false = refl

same_flags_self : (f : Flags) → same_flags f f ≡ true
same_flags_self f =
    rw (same_truth_self f.ignore_case, same_truth_self f.multi_line, same_truth_self f.dot_all) refl

of_member : (k v : List ℕ) (u : Clause) → is_member k v u ≡ true → member k v ≡ u
of_member k v (member l w) h =
    let p = both (bytes_eq k l) (bytes_eq v w) h in
    λ i. member (of_bytes k l p.0 i) (of_bytes v w p.1 i)
of_member k v _ h = absurd (false≢true h)

of_compare : (k : List ℕ) (o : Operator) (n : ℤ) (u : Clause) → is_compare k o n u ≡ true → compare k o n ≡ u
of_compare k o n (compare l q m) h =
    let p = both (bytes_eq k l) (operator_eq o q && int_eq n m) h in
    let r = both (operator_eq o q) (int_eq n m) p.1 in
    λ i. compare (of_bytes k l p.0 i) (of_op o q r.0 i) ((Decides-int_eq n m).0 r.1 i)
of_compare k o n _ h = absurd (false≢true h)

mutual
  pub of_same : (t u : Clause) → same t u ≡ true → t ≡ u
  of_same always u h = of_always u h
  of_same never u h = of_never u h
  of_same (key k) u h = of_key k u h
  of_same (equals k v) u h = of_equals k v u h
  of_same (compare k o n) u h = of_compare k o n u h
  of_same (matches k v f) u h = of_matches k v f u h
  of_same (member k v) u h = of_member k v u h
  of_same (not_of t) (not_of u) h = ap not_of (of_same t u h)
  of_same (not_of t) _ h = absurd (false≢true h)
  of_same (all_of ts) (all_of us) h = ap all_of (of_same_all ts us h)
  of_same (all_of ts) _ h = absurd (false≢true h)
  of_same (any_of ts) (any_of us) h = ap any_of (of_same_all ts us h)
  of_same (any_of ts) _ h = absurd (false≢true h)

  pub of_same_all : (ts us : Clauses) → same_all ts us ≡ true → ts ≡ us
  of_same_all no_clauses no_clauses h = refl
  of_same_all no_clauses (clause u us) h = absurd (false≢true h)
  of_same_all (clause t ts) no_clauses h = absurd (false≢true h)
  of_same_all (clause t ts) (clause u us) h =
      let p = both (same t u) (same_all ts us) h in
      λ i. clause (of_same t u p.0 i) (of_same_all ts us p.1 i)

mutual
  pub same_self : (t : Clause) → same t t ≡ true
  same_self always = refl
  same_self never = refl
  same_self (key k) = same_bytes k
  same_self (equals k v) = rw (same_bytes k, same_bytes v) refl
  same_self (compare k o n) = rw (same_bytes k, same_op o, (Decides-int_eq n n).1 refl) refl
  same_self (matches k v f) = rw (same_bytes k, same_bytes v, same_flags_self f) refl
  same_self (member k v) = rw (same_bytes k, same_bytes v) refl
  same_self (not_of t) = same_self t
  same_self (all_of ts) = same_all_self ts
  same_self (any_of ts) = same_all_self ts

  pub same_all_self : (ts : Clauses) → same_all ts ts ≡ true
  same_all_self no_clauses = refl
  same_all_self (clause t ts) = rw (same_self t, same_all_self ts) refl

pub same-Decides : (t u : Clause) → Decides (same t u) (t ≡ u)
same-Decides t u = (of_same t u, λ e. subst (λ x. same t x ≡ true) e (same_self t))

-- an answer of the test, at equal clauses
pub same-exact : (b : Bool) (t u v w : Clause) → b ≡ same t u → t ≡ v → u ≡ w
    → (b ≡ true → v ≡ w) × (v ≡ w → b ≡ true)
same-exact b t u v w e p q =
    (λ h. sym p ∙ of_same t u (sym e ∙ h) ∙ q, λ h. e ∙ (same-Decides t u).1 (p ∙ h ∙ sym q))

and_false : (a : Bool) → a && false ≡ false
and_false true = refl
and_false false = refl

-- lists of different lengths aren't the same
pub same_all-lengths : (ts us : List Clause) → (length ts ≡ length us → ⊥)
    → false ≡ same_all (clauses_of ts) (clauses_of us)
same_all-lengths [] [] h = absurd (h refl)
same_all-lengths [] (u ∷ us) h = refl
same_all-lengths (t ∷ ts) [] h = refl
same_all-lengths (t ∷ ts) (u ∷ us) h =
    sym (rw (← same_all-lengths ts us (λ e. h (ap suc e))) (and_false (same t u)))
