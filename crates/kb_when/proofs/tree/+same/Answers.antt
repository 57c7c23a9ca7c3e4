use Rattle.std.proofs.Common.{map, arith}
use Rattle.std.proofs.lemmas.List.{length-map}
use Rattle.kb_when.specs.Tree.{clause_of}
use Rattle.kb_when.proofs.SameLemmas.{same_all-lengths}
use Rattle.kb_when.proofs.tree.+same.Goals as goal

pub same_trees-returns-then-trees-others : goal.same_trees-returns-then-trees-others
same_trees-returns-then-trees-others t c =
    same_all-lengths (map clause_of c.args.trees.now) (map clause_of c.args.others.now)
    (λ e. c.if-trees-others.true (omega (arith, simp length-map at e)))
