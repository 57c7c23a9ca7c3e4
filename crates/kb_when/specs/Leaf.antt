-- The clause of a leaf, with the mark of its pattern and without.
use Rattle.kb_when.specs.Clause.{Clause}
use Rattle.kb_when.specs.Marked as marked
use Rattle.kb_when.specs.Marked.{Marked, tree_of}
use Rattle.kb_when.specs.declared.leaf.Leaf.{Leaf}
use Rattle.kb_when.specs.declared.leaf.Leaf.TheVariants.{Key, Equals, Compare, Matches, Member}

abbrev pub marked_of_leaf : Leaf → Marked
marked_of_leaf (Key k) = marked.key k
marked_of_leaf (Equals k v) = marked.equals k v
marked_of_leaf (Compare k o n) = marked.compare k o n
marked_of_leaf (Matches k p) = marked.matches k p
marked_of_leaf (Member k other) = marked.member k other

-- the clause without marks
abbrev pub clause_of_leaf : Leaf → Clause
clause_of_leaf a = tree_of (marked_of_leaf a)
