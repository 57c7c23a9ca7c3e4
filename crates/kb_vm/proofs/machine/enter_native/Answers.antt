use Rattle.std.proofs.Common.{◌≡◌, ◌≤◌, ap, sym, subst, rules}
use Rattle.kb_core.specs.Core.{core_after}
use Rattle.kb_core.specs.Native.{budget_of}
use Rattle.kb_vm.specs.Meaning.{native_called}
use Rattle.kb_vm.specs.Outcome.{Shows}
use Rattle.kb_vm.specs.State.{finish, resume}
use Rattle.kb_vm.proofs.Frames.{native_keeps}
use Rattle.kb_vm.proofs.Turns.{native_shows}
use Rattle.kb_vm.proofs.machine.enter_native.Goals as goal

pub returns-in-Ok-clause-turned : goal.returns-in-Ok-clause-turned
returns-in-Ok-clause-turned g c = λ w s refused.
    let m = c.args.machine in
    let t = g.L.Commands.live c.args.commands.now in
    let does : (c.run_native-core.result.core ≡ core_after c.args.native c.args.given m.core) × (c.in-Ok.cost ≤ budget_of c.args.native) = search rules in (
      native_called c.args.native c.args.given w,
      native_shows w c.args.native c.args.given m.core _ m.lines m.spent c.in-Ok.cost c.from.result s does.0 does.1 c.from.ensures,
      ap (λ fs. finish t fs (resume t m.frame (native_called c.args.native c.args.given w))) (sym c.give_back.ensures),
    )

pub returns-in-Err-clause-turned : goal.returns-in-Err-clause-turned
returns-in-Err-clause-turned g c = λ w s refused.
    let m = c.args.machine in
    let same : c.run_native-core.result.core ≡ m.core = search rules in (
      w,
      subst (λ core. Shows w core m.lines m.spent) (sym same) s,
      native_keeps _ m c.args.native c.args.given w,
      refused,
    )
