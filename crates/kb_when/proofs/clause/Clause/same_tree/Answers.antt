use Rattle.std.proofs.Common.{ap}
use Rattle.kb_when.specs.Clause.{Clause}
use Rattle.kb_when.specs.Marks.{MarkedClause}
use Rattle.kb_when.proofs.SameLemmas.{same-exact}
use Rattle.kb_when.proofs.clause.Clause.same_tree.Goals as goal

abbrev tree_in : MarkedClause → Clause
tree_in c = c.tree

pub returns : goal.returns
returns c =
    same-exact c.same.result _ _ _ _ c.same.ensures (ap tree_in c.self.view_is) (ap tree_in c.other.view_is)
