use Rattle.std.proofs.Common.{◌≡◌, sym, subst, false, rules}
use Rattle.kb_core.specs.Signature.{fits}
use Rattle.kb_code.specs.Commands.{declared_by}
use Rattle.kb_code.specs.Found.{callee_of}
use Rattle.kb_vm.specs.Meaning.{first_world, start_callee}
use Rattle.kb_vm.specs.Outcome.{Ends}
use Rattle.kb_vm.proofs.Starts.{misfit, unspent_shows}
use Rattle.kb_vm.proofs.starting.start_found.Goals as goal

pub returns-then-not-args_fit-clause-ends : goal.returns-then-not-args_fit-clause-ends
returns-then-not-args_fit-clause-ends g c =
    let t = g.L.Commands.live c.args.commands.now in
    let w = first_world c.args.core in
    let a = start_callee t c.args.command.now (callee_of c.args.callee) c.args.args w in
    let o = c.unspent in
    let unfit : fits (declared_by (callee_of c.args.callee)).params c.args.args ≡ false = search rules in
    subst (Ends c.args.core a o.result) (sym o.ensures.finish) (
      w,
      unspent_shows c.args.core _ _ _ o.ensures.core o.ensures.lines o.ensures.spent,
      misfit t c.args.command.now (callee_of c.args.callee) c.args.args w unfit,
    )
