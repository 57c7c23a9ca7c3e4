use Rattle.std.proofs.Common.{◌≡◌, rules}
use Rattle.kb_vm.proofs.Frames.{at_outset, coded_keeps, coded_rest}
use Rattle.kb_vm.proofs.machine.enter_coded.Goals as goal

pub returns-clause-turned : goal.returns-clause-turned
returns-clause-turned c = λ table w s refused.
    (w, s, coded_keeps table c.args.machine c.args.handler c.args.given w, refused)

pub returns-in-Ok-clause-turned : goal.returns-in-Ok-clause-turned
returns-in-Ok-clause-turned c = λ table w s refused.
    let left : c.budget-left.result ≡ c.args.handler.signature.budget = search rules in
    let at = at_outset c.none.result c.in-Ok.operands c.none.ensures c.in-Ok.ensures.0 in
    (w, s, coded_rest table c.args.machine c.args.handler c.args.given w _ c.budget-left.result _ c.in-Ok.ensures.1 left at)
