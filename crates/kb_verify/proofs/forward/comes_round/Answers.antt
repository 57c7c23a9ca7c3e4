use Rattle.std.proofs.Common.{◌<◌, ◌+◌, sym, subst, ◌∙◌, IfSome, arith}
use Rattle.kb_code.proofs.Tables.{start_within}
use Rattle.kb_verify.proofs.forward.comes_round.Goals as goal

pub overflow_add-start : goal.overflow_add-start
overflow_add-start c =
    let p = c.args.place in
    let lt = subst (λ o. IfSome o (λ q. q < p + 1)) (sym c.block.ensures ∙ c.in-Some.is)
    (start_within c.args.code.now p (p + 1) (omega arith)) in
    let f = c.ranges.place in
    omega (arith, lt, f.fits)
