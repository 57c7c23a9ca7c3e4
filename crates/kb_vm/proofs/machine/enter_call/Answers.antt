use Rattle.std.proofs.Common.{ap, sym, subst, ◌∙◌}
use Rattle.std.proofs.lemmas.Bool.{le-leb}
use Rattle.kb_vm.specs.Memory.{goes_on}
use Rattle.kb_vm.specs.State.{TurnedFrom, rest_of, is_enter}
use Rattle.kb_vm.proofs.Frames.{finish_stuck}
use Rattle.kb_vm.proofs.machine.enter_call.Goals as goal

pub returns-in-Stop-clause-turned : goal.returns-in-Stop-clause-turned
returns-in-Stop-clause-turned g c = λ w s refused.
    let m = c.args.machine in
    let t = g.L.Commands.live c.args.commands.now in (
      w,
      s,
      ap (λ e. rest_of t m e w) c.in-Stop.ensures.does
          ∙ finish_stuck t m.callers c.in-Stop.trap m.frame.handler.command m.frame.place w,
    )

pub returns-in-Enter-clause-turned : goal.returns-in-Enter-clause-turned
returns-in-Enter-clause-turned g c = λ w s refused.
    let m = c.args.machine in
    let t = g.L.Commands.live c.args.commands.now in
    let is = c.in-Enter.ensures.does in
    subst (λ e. TurnedFrom t (rest_of t m e w) c.enter_callee.result) (sym is)
    (c.enter_callee.ensures.turned w s
    (λ paid. refused (ap is_enter is) (ap (goes_on m.frame.left) is ∙ le-leb _ _ paid)))
