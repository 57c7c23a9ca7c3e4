-- Why clauses that contradict by a literal never hold at once.
use Rattle.std.proofs.Common.{◌≡◌, Bool, true, false, not, List, [], ◌∷◌, Option, refl, sym, ap, ◌∙◌, map, subst}
use Rattle.std.specs.Prelude.{◌&&◌, ◌||◌, Some, Result, Ok, Err, OnOk}
use Rattle.kb_context.specs.Scopes.{Keys}
use Rattle.kb_explain.specs.Cause.{agrees}
use Rattle.kb_explain.specs.Overlap.{AllFollow, FollowsFrom, is_match}
use Rattle.kb_when.specs.Clause as tree
use Rattle.kb_when.specs.Clause.{Clause}
use Rattle.kb_when.specs.Leaf.{clause_of_leaf, marked_of_leaf}
use Rattle.kb_when.specs.Marked as marked
use Rattle.kb_when.specs.Marked.{Marked, marked_value, all_marked_hold, any_marked_holds}
use Rattle.kb_when.specs.Marks.{MarkedClause, beside, when_holds}
use Rattle.kb_when.specs.Same.{same}
use Rattle.kb_when.specs.Tree.{marked_of, marked_step, markeds_of}
use Rattle.kb_when.specs.declared.tree.Tree.{Tree}
use Rattle.kb_when.specs.declared.tree.Tree.TheFolds.{fold-roll-Tree}
use Rattle.kb_when.specs.declared.tree.Tree.TheOpen.{Tree-F}
use Rattle.kb_when.specs.declared.tree.Tree.TheVariants.{Atom, And, Or, rolls-Atom, rolls-And, rolls-Or}
use Rattle.kb_when.specs.declared.leaf.Leaf.{Leaf}
use Rattle.kb_when.specs.declared.leaf.Leaf.TheVariants.{Key, Equals, Compare, Matches, Member}
use Rattle.kb_when.proofs.MarkedLemmas.{value_beside}
use Rattle.kb_when.proofs.SameLemmas.{of_same}

both_true : (a b : Bool) → (a && b) ≡ true → (a ≡ true) × (b ≡ true)
both_true true b h = (refl, h)
both_true false b h = absurd (cc)

none_true : (a b : Bool) → not (a || b) ≡ true → (not a ≡ true) × (not b ≡ true)
none_true true b h = absurd (cc)
none_true false b h = (refl, h)

agrees_not : (w b : Bool) → agrees w (not b) ≡ agrees (not w) b
agrees_not true b = refl
agrees_not false true = refl
agrees_not false false = refl

-- where a conjunction holds each operand does
pub all_follow : (clause : Option MarkedClause) (ms : List Marked)
    → FollowsFrom clause true (marked.all_of (markeds_of ms)) → AllFollow clause true ms
all_follow clause [] h = tt {0}
all_follow clause (m ∷ ms) h = (
  λ keys e. (both_true (marked_value keys m) (all_marked_hold keys (markeds_of ms)) (h keys e)).0,
  all_follow clause ms
      (λ keys e. (both_true (marked_value keys m) (all_marked_hold keys (markeds_of ms)) (h keys e)).1),
)

-- where a disjunction fails each operand does
pub none_follow : (clause : Option MarkedClause) (ms : List Marked)
    → FollowsFrom clause false (marked.any_of (markeds_of ms)) → AllFollow clause false ms
none_follow clause [] h = tt {0}
none_follow clause (m ∷ ms) h = (
  λ keys e. (none_true (marked_value keys m) (any_marked_holds keys (markeds_of ms)) (h keys e)).0,
  none_follow clause ms
      (λ keys e. (none_true (marked_value keys m) (any_marked_holds keys (markeds_of ms)) (h keys e)).1),
)

pub not_follows : (clause : Option MarkedClause) (w : Bool) (m : Marked)
    → FollowsFrom clause w (marked.not_of m) → FollowsFrom clause (not w) m
not_follows clause w m h = λ keys e. sym (agrees_not w (marked_value keys m)) ∙ h keys e

-- the leaf of a clause that is an atom without a pattern, with its marks
abbrev unmarked : Clause → Marked
unmarked (tree.key k) = marked.key k
unmarked (tree.equals k v) = marked.equals k v
unmarked (tree.compare k o n) = marked.compare k o n
unmarked (tree.member k other) = marked.member k other
unmarked _ = marked.never

marked_again : (a : Leaf) → is_match a ≡ false → unmarked (clause_of_leaf a) ≡ marked_of_leaf a
marked_again (Key k) h = refl
marked_again (Equals k v) h = refl
marked_again (Compare k o n) h = refl
marked_again (Matches k p) h = absurd (let no : true ≡ false = h in cc)
marked_again (Member k other) h = refl

same_leaf : (a b : Leaf) → is_match a ≡ false → is_match b ≡ false
    → same (clause_of_leaf a) (clause_of_leaf b) ≡ true → marked_of_leaf a ≡ marked_of_leaf b
same_leaf a b h k e =
    sym (marked_again a h) ∙ ap unmarked (of_same (clause_of_leaf a) (clause_of_leaf b) e) ∙ marked_again b k

not_both_wanted : (v w b : Bool) → (v ≡ w → ⊥) → agrees v b ≡ true → agrees w b ≡ true → ⊥
not_both_wanted true true b h p q = h refl
not_both_wanted true false true h p q = cc
not_both_wanted true false false h p q = cc
not_both_wanted false true true h p q = cc
not_both_wanted false true false h p q = cc
not_both_wanted false false b h p q = h refl

-- an atom and its negation don't hold at once
pub negated : (keys : Keys) (a b : Leaf) (v w : Bool) → is_match a ≡ false → is_match b ≡ false
    → same (clause_of_leaf a) (clause_of_leaf b) ≡ true → (v ≡ w → ⊥)
    → agrees v (marked_value keys (marked_of_leaf a)) ≡ true
    → agrees w (marked_value keys (marked_of_leaf b)) ≡ true → ⊥
negated keys a b v w h k e n p q =
    not_both_wanted v w (marked_value keys (marked_of_leaf b)) n
    (ap (λ (m : Marked). agrees v (marked_value keys m)) (sym (same_leaf a b h k e)) ∙ p) q

module _ (clause : Option MarkedClause) (w : Bool) (m : Marked) (ts : List Tree) where
  -- of a conjunction that is wanted
  pub and_follows : m ≡ marked.all_of (markeds_of (map marked_of ts)) → w ≡ true → FollowsFrom clause w m
      → AllFollow clause w (map marked_of ts)
  and_follows e p h =
      subst (λ (v : Bool). AllFollow clause v (map marked_of ts)) (sym p)
      (all_follow clause (map marked_of ts)
      (λ keys k. sym (λ i. agrees (p i) (marked_value keys (e i))) ∙ h keys k))

  -- of a disjunction that isn't
  pub or_follows : m ≡ marked.any_of (markeds_of (map marked_of ts)) → w ≡ false → FollowsFrom clause w m
      → AllFollow clause w (map marked_of ts)
  or_follows e p h =
      subst (λ (v : Bool). AllFollow clause v (map marked_of ts)) (sym p)
      (none_follow clause (map marked_of ts)
      (λ keys k. sym (λ i. agrees (p i) (marked_value keys (e i))) ∙ h keys k))

-- the first of those that are left, and the others
module _ (clause : Option MarkedClause) (w : Bool) (left : List Tree) (t : Tree) (rest : List Tree)
    (e : left ≡ t ∷ rest) (h : AllFollow clause w (map marked_of left)) where
  pub follows_first : FollowsFrom clause w (marked_of t)
  follows_first = (subst (λ (ts : List Tree). AllFollow clause w (map marked_of ts)) e h).0

  pub follows_rest : AllFollow clause w (map marked_of rest)
  follows_rest = (subst (λ (ts : List Tree). AllFollow clause w (map marked_of ts)) e h).1

pub where_ok : {A E P Q : Type 0} (r : Result A E) → (P → Q) → OnOk r P → OnOk r Q
where_ok (Ok x) f p = f p
where_ok (Err why) f p = tt {0}

-- the tree of a clause holds where the clause does
pub tree_follows : (m : Marked) (clause : MarkedClause) → beside m ≡ clause → FollowsFrom (Some clause) true m
tree_follows m clause b = λ keys e.
    sym (value_beside keys m) ∙ ap (λ (c : MarkedClause). when_holds keys (Some c)) b ∙ e

-- ---- trees, seen as clauses with their marks

pub atom_seen : (a : _) → marked_of (Atom a) ≡ marked_of_leaf a.value
atom_seen a = ap marked_of (sym (rolls-Atom a)) ∙ fold-roll-Tree Marked marked_step (Tree-F.Atom a)

pub and_seen : (ts : _) → marked_of (And ts) ≡ marked.all_of (markeds_of (map marked_of ts.items))
and_seen ts = ap marked_of (sym (rolls-And ts)) ∙ fold-roll-Tree Marked marked_step (Tree-F.And ts)

pub or_seen : (ts : _) → marked_of (Or ts) ≡ marked.any_of (markeds_of (map marked_of ts.items))
or_seen ts = ap marked_of (sym (rolls-Or ts)) ∙ fold-roll-Tree Marked marked_step (Tree-F.Or ts)
