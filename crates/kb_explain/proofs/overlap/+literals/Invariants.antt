use Rattle.std.proofs.Common.{drop, map}
use Rattle.std.specs.Prelude.{All, Option}
use Rattle.kb_explain.specs.Overlap.{AllFollow, IsNeeded}
use Rattle.kb_when.specs.Marks.{MarkedClause}
use Rattle.kb_when.specs.Tree.{marked_of}
use Rattle.kb_explain.proofs.overlap.+literals.Given as goal

-- what was added is needed, and so are the trees that are left
abbrev pub invariant-add_all-loop-tree : goal.invariant-add_all-loop-tree
invariant-add_all-loop-tree l =
    (clause : Option MarkedClause) → AllFollow clause l.fn.wanted (map marked_of l.fn.trees)
    → All (IsNeeded clause) l.fn.literals.items
    → All (IsNeeded clause) l.literals.items
    × AllFollow clause l.fn.wanted (map marked_of (drop l.tree-index l.fn.trees))
