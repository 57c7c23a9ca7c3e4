use Rattle.std.proofs.Common.{◌<◌, ◌+◌, sym, subst, arith}
use Rattle.std.specs.Prelude.{IfSome}
use Rattle.kb_code.proofs.Tables.{start_within}
use Rattle.kb_vm.proofs.machine.end_turn.Goals as goal

pub overflow_add-result : goal.overflow_add-result
overflow_add-result c =
    let p = c.args.place in
    let before = subst (λ o. IfSome o (λ q. q < p + 1)) (sym c.in_ok-start.ensures)
    (start_within c.args.code.now p (p + 1) (omega arith)) in
    let fits = c.requires in
    omega (arith, before, fits)
