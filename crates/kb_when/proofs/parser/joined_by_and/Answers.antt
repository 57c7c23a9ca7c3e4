use Rattle.std.proofs.Common.{map, arith, ◌∙◌}
use Rattle.std.proofs.lemmas.List.{length-map}
use Rattle.kb_when.specs.Tree.{clause_of}
use Rattle.kb_when.proofs.DescentLemmas.{all_of-several}
use Rattle.kb_when.proofs.parser.joined_by_and.Goals as goal

pub returns : goal.returns
returns c = c.all.ensures
    ∙ all_of-several (map clause_of c.args.trees.items)
    (λ e. c.if-len-eq1.false (omega (arith, c.len.ensures, simp length-map at e, c.args.trees.ok.0)))
    (simp length-map (omega arith))
