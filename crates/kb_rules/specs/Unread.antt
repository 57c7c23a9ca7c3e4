-- Marks of patterns: those that aren't read, of the clauses of a list.
use Rattle.std.specs.Prelude.{List, [], Option, None, Some, option_map}
use Rattle.kb_when.specs.Clause.{Clause, patterns_of}
use Rattle.kb_when.specs.Marks.{MarkedClause}
use Rattle.kb_pattern.specs.Pattern.{AreRight}
use Rattle.kb_when.specs.Unread.{unread_of, marked_by}
use Rattle.kb_base.specs.declared.note.UnreadPattern.{UnreadPattern}
use Rattle.kb_rules.specs.declared.entry.Entry.{Entry}
use Rattle.kb_rules.specs.declared.entry.Entry.TheVariants.{Starts, Removes}

-- the tree of a condition, if there is one
abbrev pub tree_in : Option MarkedClause → Option Clause
tree_in = option_map (λ clause. clause.tree)

-- a condition marked by these, in the place of its own marks
abbrev pub marked_when : List UnreadPattern → Option MarkedClause → Option MarkedClause
marked_when unread when = option_map (marked_by unread) (tree_in when)

-- the same of a rule or a removal
abbrev pub marked_entry : List UnreadPattern → Entry → Entry
marked_entry unread (Starts rule) = Starts (record rule { when = marked_when unread rule.when })
marked_entry unread (Removes removal) = Removes (record removal { when = marked_when unread removal.when })

abbrev pub unread_when : Option MarkedClause → List UnreadPattern
unread_when None = []
unread_when (Some clause) = unread_of clause

-- the unread patterns of a rule or a removal
abbrev pub unread_in : Entry → List UnreadPattern
unread_in (Starts rule) = unread_when rule.when
unread_in (Removes removal) = unread_when removal.when

-- each pattern of the condition is marked as it is or isn't read
abbrev pub IsRightlyMarked : Option MarkedClause → Type 0
IsRightlyMarked None = Unit {0}
IsRightlyMarked (Some clause) = AreRight (patterns_of clause.tree) clause.marks
