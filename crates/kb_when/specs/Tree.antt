-- The clause of a tree of the program, with its marks and without.
use Rattle.std.specs.Prelude.{List, [], ◌∷◌}
use Rattle.kb_when.specs.Clause.{Clause, Clauses, no_clauses, clause}
use Rattle.kb_when.specs.Leaf.{marked_of_leaf}
use Rattle.kb_when.specs.Marked as marked
use Rattle.kb_when.specs.Marked.{Marked, Markeds, tree_of}
use Rattle.kb_when.specs.declared.tree.Tree.{Tree, fold-Tree}
use Rattle.kb_when.specs.declared.tree.Tree.TheOpen.{Tree-F}

abbrev pub clauses_of : List Clause → Clauses
clauses_of [] = no_clauses
clauses_of (t ∷ ts) = clause t (clauses_of ts)

-- the same for clauses with their marks
abbrev pub markeds_of : List Marked → Markeds
markeds_of [] = marked.no_clauses
markeds_of (m ∷ ms) = marked.clause m (markeds_of ms)

-- one level of the tree, where each subtree is already replaced by its clause
abbrev pub marked_step : Tree-F Marked → Marked
marked_step Tree-F.True = marked.always
marked_step Tree-F.False = marked.never
marked_step (Tree-F.Atom a) = marked_of_leaf a.value
marked_step (Tree-F.Not t) = marked.not_of t.value
marked_step (Tree-F.And ts) = marked.all_of (markeds_of ts.items)
marked_step (Tree-F.Or ts) = marked.any_of (markeds_of ts.items)

abbrev pub marked_of : Tree → Marked
marked_of = fold-Tree Marked marked_step

-- the clause without marks
abbrev pub clause_of : Tree → Clause
clause_of t = tree_of (marked_of t)
