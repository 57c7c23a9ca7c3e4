-- The unread patterns of a clause, and the marks that follow from them.
use Rattle.std.specs.Prelude.{◌≡◌, ℕ, zero, suc, List, [], ◌∷◌, ◌++◌, Bool, length, nat_eq, if◌then◌else◌}
use Rattle.std.specs.List.{list_any}
use Rattle.kb_pattern.specs.declared.flags.Flags.{Flags}
use Rattle.kb_base.specs.declared.note.UnreadPattern.{UnreadPattern}
use Rattle.kb_when.specs.declared.unread.Noted.{Noted}
use Rattle.kb_when.specs.Clause.{Clause, patterns_of}
use Rattle.kb_when.specs.Marked.{Marked, tree_of, marks_of}
use Rattle.kb_when.specs.Marks.{MarkedClause, beside}
use Rattle.kb_pattern.specs.Pattern.{MarkedPattern, AreRight, HasRightMark}

-- the marked ones of these patterns, numbered from n on
abbrev pub unread_from : ℕ → List (List ℕ × Flags) → List Bool → List UnreadPattern
unread_from n [] marks = []
unread_from n (p ∷ ps) [] = []
unread_from n (p ∷ ps) (b ∷ marks) =
    if b then record { number = n; pattern = p.0 } ∷ unread_from (suc n) ps marks
    else unread_from (suc n) ps marks

-- the marked patterns of a clause, each with its index among all patterns, from 0
abbrev pub unread_of : MarkedClause → List UnreadPattern
unread_of c = unread_from 0 (patterns_of c.tree) c.marks

-- the marks of `more` patterns, numbered from n on, of which the listed ones are unread
abbrev pub marks_from : ℕ → ℕ → List UnreadPattern → List Bool
marks_from n zero unread = []
marks_from n (suc more) unread =
    list_any (λ u. nat_eq u.number n) unread ∷ marks_from (suc n) more unread

-- the tree, with the marks that the listed patterns give
abbrev pub marked_by : List UnreadPattern → Clause → MarkedClause
marked_by unread t = record { tree = t; marks = marks_from 0 (length (patterns_of t)) unread }

-- the unread patterns that a clause stores: those of its tree, whose marks are correct
pub record IsKept (m : Marked) (kept : List UnreadPattern) : Type 0 where
  pub listed : kept ≡ unread_of (beside m)
  pub right : AreRight (patterns_of (tree_of m)) (marks_of m)

-- ---- how they are found

abbrev pub HaveRightMarks : List MarkedPattern → Type 0
HaveRightMarks [] = Unit {0}
HaveRightMarks (p ∷ ps) = HasRightMark p × HaveRightMarks ps

-- one more pattern is visited
abbrev pub note : Noted → MarkedPattern → Noted
note s p = record {
  marks = s.marks ++ p.unread ∷ [];
  unread =
      if p.unread then s.unread ++ record { number = length s.marks; pattern = p.text } ∷ [] else s.unread;
}

abbrev pub note_all : Noted → List MarkedPattern → Noted
note_all s [] = s
note_all s (p ∷ ps) = note_all (note s p) ps
