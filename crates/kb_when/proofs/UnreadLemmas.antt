-- The patterns found by a walk over a tree are those of its clause, and the marks follow from them.
use Rattle.std.proofs.Common.{◌≡◌, ℕ, zero, suc, ◌<◌, List, [], ◌∷◌, ◌++◌, Bool, true, false, length, map}
use Rattle.std.specs.Prelude.{◌||◌, nat_eq}
use Rattle.std.proofs.lemmas.Bool.Decides.{nat_tests}
use Rattle.std.proofs.Common.{arith, refl, sym, ◌∙◌, ap, subst, append_assoc, append-nil, add-one}
use Rattle.std.proofs.lemmas.List.{length-append}
use Rattle.std.specs.List.{list_any}
use Rattle.kb_pattern.specs.Pattern.{MarkedPattern, AreRight}
use Rattle.kb_when.specs.Clause.{patterns_of}
use Rattle.kb_when.specs.Marked.{Marked, tree_of, marks_of, patterns_in, all_patterns_in}
use Rattle.kb_when.specs.Tree.{marked_of, markeds_of}
use Rattle.kb_when.specs.declared.tree.Tree.{Tree}
use Rattle.kb_when.specs.Marks.{MarkedClause, beside}
use Rattle.kb_pattern.specs.declared.flags.Flags.{Flags}
use Rattle.kb_when.specs.declared.unread.Noted.{Noted}
use Rattle.kb_base.specs.declared.note.UnreadPattern.{UnreadPattern}
use Rattle.kb_when.specs.Unread.{unread_from, unread_of, marks_from, marked_by, IsKept, note, note_all}
use Rattle.kb_when.specs.Unread.{HaveRightMarks}
use Rattle.kb_when.proofs.MarkedLemmas.{plain, patterns_seen}

-- one after another
note_apart : (s : Noted) (ps qs : List MarkedPattern) → note_all s (ps ++ qs) ≡ note_all (note_all s ps) qs
note_apart s [] qs = refl
note_apart s (p ∷ ps) qs = note_apart (note s p) ps qs

right_together : (ps qs : List MarkedPattern) → HaveRightMarks ps → HaveRightMarks qs
    → HaveRightMarks (ps ++ qs)
right_together [] qs h k = k
right_together (p ∷ ps) qs h k = (h.0, right_together ps qs h.1 k)

module _ (ts : List Tree) (t : Tree) (rest : List Tree) (e : ts ≡ t ∷ rest) where
  pub noted_next : (s new all : Noted) → new ≡ note_all s (patterns_in (marked_of t))
      → note_all s (all_patterns_in (markeds_of (map marked_of ts))) ≡ all
      → note_all new (all_patterns_in (markeds_of (map marked_of rest))) ≡ all
  noted_next s new all n h =
      ap (λ (x : Noted). note_all x (all_patterns_in (markeds_of (map marked_of rest)))) n
      ∙ sym (note_apart s (patterns_in (marked_of t)) (all_patterns_in (markeds_of (map marked_of rest))))
      ∙ sym (ap (λ (l : List Tree). note_all s (all_patterns_in (markeds_of (map marked_of l)))) e) ∙ h

  pub right_next : HaveRightMarks (patterns_in (marked_of t))
      → HaveRightMarks (all_patterns_in (markeds_of (map marked_of rest)))
      → HaveRightMarks (all_patterns_in (markeds_of (map marked_of ts)))
  right_next h k =
      let P : List Tree → Type 0 = λ l. HaveRightMarks (all_patterns_in (markeds_of (map marked_of l))) in
      subst P (sym e)
      (right_together (patterns_in (marked_of t)) (all_patterns_in (markeds_of (map marked_of rest))) h k)

-- what is noted
noted_by : (n : ℕ) (s : Noted) (p : MarkedPattern) (b : Bool) (ps : List (List ℕ × Flags)) (marks : List Bool)
    → p.unread ≡ b → length s.marks ≡ n
    → (note s p).unread ++ unread_from (suc n) ps marks
    ≡ s.unread ++ unread_from n (plain p ∷ ps) (p.unread ∷ marks)
noted_by n s p true ps marks e l =
    rw (e, l)
    (append_assoc s.unread (record { number = n; pattern = p.text } ∷ []) (unread_from (suc n) ps marks))
noted_by n s p false ps marks e l = rw e refl

noted : (n : ℕ) (s : Noted) (ps : List MarkedPattern) → length s.marks ≡ n
    → (note_all s ps).unread ≡ s.unread ++ unread_from n (map plain ps) (map (λ p. p.unread) ps)
noted n s [] l = sym (append-nil s.unread)
noted n s (p ∷ ps) l =
    noted (suc n) (note s p) ps (length-append s.marks (p.unread ∷ []) ∙ add-one (length s.marks) ∙ ap suc l)
    ∙ noted_by n s p p.unread (map plain ps) (map (λ q. q.unread) ps) refl l

all_noted : (m : Marked)
    → (note_all (record { marks = []; unread = [] }) (patterns_in m)).unread ≡ unread_of (beside m)
all_noted m =
    noted 0 (record { marks = []; unread = [] }) (patterns_in m) refl
    ∙ ap (λ (ps : List (List ℕ × Flags)). unread_from 0 ps (marks_of m)) (sym (patterns_seen m))

-- each mark is right
right_beside : (ps : List MarkedPattern) → HaveRightMarks ps
    → AreRight (map plain ps) (map (λ p. p.unread) ps)
right_beside [] h = h
right_beside (p ∷ ps) h = (h.0, right_beside ps h.1)

pub kept : (m : Marked) (none new : Noted) → none ≡ record { marks = []; unread = [] }
    → HaveRightMarks (patterns_in m) → new ≡ note_all none (patterns_in m) → IsKept m new.unread
kept m none new z h e = record {
  listed =
      ap (λ (x : Noted). x.unread) e
      ∙ ap (λ (x : Noted). (note_all x (patterns_in m)).unread) z ∙ all_noted m;
  right =
      let P : List (List ℕ × Flags) → Type 0 = λ ps. AreRight ps (marks_of m) in
      subst P (sym (patterns_seen m)) (right_beside (patterns_in m) h);
}

-- ---- the marks follow from the patterns that aren't read

not_same : (a b : ℕ) → b < a → nat_eq a b ≡ false
not_same a b lt = grind (arith, nat_tests)

itself : (n : ℕ) → nat_eq n n ≡ true
itself n = grind (arith, nat_tests)

-- none of them has a lower number
later : (n m : ℕ) (ps : List (List ℕ × Flags)) (marks : List Bool) → n < m
    → list_any (λ u. nat_eq u.number n) (unread_from m ps marks) ≡ false
later n m [] marks lt = refl
later n m (p ∷ ps) [] lt = refl
later n m (p ∷ ps) (true ∷ marks) lt = rw (not_same m n lt) (later n (suc m) ps marks (omega arith))
later n m (p ∷ ps) (false ∷ marks) lt = later n (suc m) ps marks (omega arith)

-- one of a lower number doesn't count
passed : (n k : ℕ) (u : UnreadPattern) (us : List UnreadPattern) → u.number < n
    → marks_from n k (u ∷ us) ≡ marks_from n k us
passed n zero u us lt = refl
passed n (suc k) u us lt =
    let lt2 : u.number < suc n = omega arith in
    let e : nat_eq u.number n ≡ false = grind (arith, nat_tests) in
    rw e (ap (λ (l : List Bool). list_any (λ v. nat_eq v.number n) us ∷ l) (passed (suc n) k u us lt2))

whole : (n : ℕ) (ps : List (List ℕ × Flags)) (marks : List Bool) → AreRight ps marks
    → marks_from n (length ps) (unread_from n ps marks) ≡ marks
whole n [] [] h = refl
whole n [] (b ∷ marks) h = absurd h
whole n (p ∷ ps) [] h = absurd h
whole n (p ∷ ps) (true ∷ marks) h =
    let us = unread_from (suc n) ps marks in
    let u : UnreadPattern = record { number = n; pattern = p.0 } in
    let lt : n < suc n = omega arith in
    λ i. (itself n i || list_any (λ v. nat_eq v.number n) us)
    ∷ (passed (suc n) (length ps) u us lt ∙ whole (suc n) ps marks h.1) i
whole n (p ∷ ps) (false ∷ marks) h =
    let lt : n < suc n = omega arith in
    λ i. later n (suc n) ps marks lt i ∷ whole (suc n) ps marks h.1 i

-- a clause whose marks are right is what its own unread patterns make of its tree
pub marked_back : (c : MarkedClause) → AreRight (patterns_of c.tree) c.marks → marked_by (unread_of c) c.tree ≡ c
marked_back c right =
    ap (λ (l : List Bool). record { tree = c.tree; marks = l }) (whole 0 (patterns_of c.tree) c.marks right)

pub marked_whole : (m : Marked) (us : List UnreadPattern) (c : MarkedClause) → IsKept m us → beside m ≡ c
    → marked_by us c.tree ≡ c
marked_whole m us c k e =
    let P : MarkedClause → Type 0 = λ x. marked_by us x.tree ≡ x in
    let marks : marks_from 0 (length (patterns_of (tree_of m))) us ≡ marks_of m =
    ap (λ (x : List UnreadPattern). marks_from 0 (length (patterns_of (tree_of m))) x) k.listed
    ∙ whole 0 (patterns_of (tree_of m)) (marks_of m) k.right in
    subst P e (ap (λ (l : List Bool). record { tree = tree_of m; marks = l }) marks)

pub right_seen : (m : Marked) (us : List UnreadPattern) (c : MarkedClause) → IsKept m us → beside m ≡ c
    → AreRight (patterns_of c.tree) c.marks
right_seen m us c k e =
    let P : MarkedClause → Type 0 = λ x. AreRight (patterns_of x.tree) x.marks in subst P e k.right
