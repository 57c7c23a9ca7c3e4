use Rattle.std.proofs.Common.{◌≤◌, ◌++◌, ◌∷◌, [], ap, sym, subst, ◌∙◌, arith}
use Rattle.kb_vm.specs.CallLine.{call_line}
use Rattle.kb_code.specs.Commands.{Plain, Coded}
use Rattle.kb_vm.specs.Effect.{Enter}
use Rattle.kb_code.specs.Found.{callee_of}
use Rattle.kb_vm.specs.Meaning.{with_line}
use Rattle.kb_vm.specs.Outcome.{Shows}
use Rattle.kb_vm.specs.State.{TurnedFrom}
use Rattle.kb_vm.proofs.Frames.{rest_of_keeps}
use Rattle.kb_vm.proofs.Turns.{entered_rich, line_shows}
use Rattle.kb_vm.proofs.machine.begin_call.Goals as goal

pub returns-in_default-clause-turned : goal.returns-in_default-clause-turned
returns-in_default-clause-turned g c = λ w s refused.
    let m = c.args.machine in (
      w,
      subst (λ lines. Shows w m.core lines m.spent) (sym c.in_default.ensures.err) s,
      rest_of_keeps _ m (Enter c.args.name.now (callee_of c.args.callee) c.args.given m.frame.operands) w,
      refused,
    )

pub returns-in-Plain-clause-turned : goal.returns-in-Plain-clause-turned
returns-in-Plain-clause-turned g c = λ w s refused.
    let m = c.args.machine in
    let e = c.in-Ok.ensures.ok ∙ ap (λ n. m.lines ++ call_line n c.args.given ∷ []) c.as_str.ensures in
    let le : c.budget.result ≤ m.frame.left = omega (arith, c.requires.paid, c.budget.ensures) in
    let eq = entered_rich (g.L.Commands.live c.args.commands.now) m c.args.name.now (callee_of c.args.callee) (Plain c.in-Plain.native) c.budget.result c.args.given m.frame.operands w le c.budget.ensures (ap callee_of c.in-Plain.is) in
    subst (λ a. TurnedFrom (g.L.Commands.live c.args.commands.now) a c.enter_native.result) (sym eq)
    (c.enter_native.ensures.turned (with_line c.args.name.now c.args.given w) (line_shows w _ _ _ _ c.args.name.now c.args.given e s) refused)

pub returns-in-Coded-clause-turned : goal.returns-in-Coded-clause-turned
returns-in-Coded-clause-turned g c = λ w s refused.
    let m = c.args.machine in
    let e = c.in-Ok.ensures.ok ∙ ap (λ n. m.lines ++ call_line n c.args.given ∷ []) c.as_str.ensures in
    let le : c.budget.result ≤ m.frame.left = omega (arith, c.requires.paid, c.budget.ensures) in
    let eq = entered_rich (g.L.Commands.live c.args.commands.now) m c.args.name.now (callee_of c.args.callee) (Coded c.in-Coded.handler) c.budget.result c.args.given m.frame.operands w le c.budget.ensures (ap callee_of c.in-Coded.is) in
    subst (λ a. TurnedFrom (g.L.Commands.live c.args.commands.now) a c.enter_coded.result) (sym eq)
    (c.enter_coded.ensures.turned _ (with_line c.args.name.now c.args.given w) (line_shows w _ _ _ _ c.args.name.now c.args.given e s) refused)
