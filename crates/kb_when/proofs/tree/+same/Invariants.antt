use Rattle.std.proofs.Common.{◌≡◌, drop, map}
use Rattle.kb_when.specs.Same.{same_all}
use Rattle.kb_when.specs.Tree.{clause_of, clauses_of}
use Rattle.kb_when.proofs.tree.+same.Given as goal

-- those that are left give the same
abbrev pub invariant-same_trees-loop-i : goal.invariant-same_trees-loop-i
invariant-same_trees-loop-i l =
    same_all (clauses_of (map clause_of (drop l.i l.trees))) (clauses_of (map clause_of (drop l.i l.others)))
    ≡ same_all (clauses_of (map clause_of l.trees)) (clauses_of (map clause_of l.others))
