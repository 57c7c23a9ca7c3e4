use Rattle.std.proofs.Common.{◌<◌, ◌≤◌, ap, subst, ◌∙◌, arith, drop}
use Rattle.kb_core.specs.Signature.{fits}
use Rattle.kb_vm.specs.Action.{arity}
use Rattle.kb_code.specs.Commands.{declared_by}
use Rattle.kb_vm.specs.Effect.{Enter, topmost}
use Rattle.kb_code.specs.Found.{callee_of}
use Rattle.kb_vm.specs.State.{TurnedFrom, rest_of}
use Rattle.kb_vm.proofs.Frames.{rest_of_keeps}
use Rattle.kb_vm.proofs.Turns.{entered_poor}
use Rattle.kb_vm.proofs.machine.enter_callee.Goals as goal

pub returns-then-machine-budget-clause-turned : goal.returns-then-machine-budget-clause-turned
returns-then-machine-budget-clause-turned g c = λ w s refused.
    let m = c.args.machine in
    let k = callee_of c.args.callee in
    let lt : m.frame.left < (declared_by k).budget = omega (arith, c.budget.ensures) in
    (w, s, entered_poor _ m c.args.name.now k (topmost (arity k) m.frame.operands) (drop (arity k) m.frame.operands) w lt)

pub returns-in_default-clause-turned : goal.returns-in_default-clause-turned
returns-in_default-clause-turned g c = λ w s refused.
    let m = c.args.machine in
    let k = callee_of c.args.callee in
    let paid : (declared_by k).budget ≤ m.frame.left = omega (arith, c.budget.ensures) in (
      w,
      s,
      rest_of_keeps _ m (Enter c.args.name.now k (topmost (arity k) m.frame.operands) (drop (arity k) m.frame.operands)) w,
      refused paid,
    )

pub begin_call-requires-clause-fit : goal.begin_call-requires-clause-fit
begin_call-requires-clause-fit g c =
    let k = callee_of c.args.callee in
    let is = c.take-given.ensures.given ∙ ap (λ n. topmost n c.args.machine.frame.operands) c.params-count.ensures.params in
    ap (fits (declared_by k).params) is ∙ c.requires.arguments.fit

pub returns-clause-turned : goal.returns-clause-turned
returns-clause-turned g c = λ w s refused.
    let t = g.L.Commands.live c.args.commands.now in
    let m = c.args.machine in
    let k = callee_of c.args.callee in
    let is = c.take-given.ensures.given ∙ ap (λ n. topmost n m.frame.operands) c.params-count.ensures.params in
    let paid : (declared_by k).budget ≤ m.frame.left = omega (arith, c.budget.ensures) in
    let left = c.take-given.ensures.rest ∙ ap (λ n. drop n m.frame.operands) c.params-count.ensures.params in
    let callers = c.in-Ok.ensures in
    subst (λ vs. TurnedFrom t (rest_of t m (Enter c.args.name.now k vs (drop (arity k) m.frame.operands)) w) c.begin_call.result) is
    (subst (λ os. TurnedFrom t (rest_of t m (Enter c.args.name.now k c.take-given.result os) w) c.begin_call.result) left
    (subst (λ fs. TurnedFrom t (rest_of t (record { frame = m.frame; callers = fs; core = m.core; lines = m.lines; spent = m.spent }) (Enter c.args.name.now k c.take-given.result c.take-given.new.self) w) c.begin_call.result) callers
    (c.begin_call.ensures.turned w s (refused paid))))
