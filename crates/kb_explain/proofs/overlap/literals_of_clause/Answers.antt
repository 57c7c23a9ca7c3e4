use Rattle.std.proofs.Common.{Some, sym, subst}
use Rattle.std.specs.Prelude.{All}
use Rattle.std.proofs.lemmas.List.Elements.{All-nil}
use Rattle.kb_explain.specs.Overlap.{IsNeeded}
use Rattle.kb_when.specs.Tree.{marked_of}
use Rattle.kb_explain.proofs.OverlapLemmas.{tree_follows}
use Rattle.kb_explain.proofs.overlap.literals_of_clause.Goals as goal

pub returns : goal.returns
returns c =
    c.in_ok-add_literals.ensures (Some c.args.clause.now)
    (tree_follows (marked_of c.tree.result.now) c.args.clause.now c.tree.ensures)
    (subst (All (IsNeeded (Some c.args.clause.now))) (sym c.new-literals.ensures.items)
    (All-nil (IsNeeded (Some c.args.clause.now))))
