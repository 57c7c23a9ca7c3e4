use Rattle.std.proofs.Common.{sym, subst}
use Rattle.kb_vm.specs.Meaning.{first_world, run}
use Rattle.kb_vm.specs.Position.{outset}
use Rattle.kb_vm.specs.Outcome.{Ends}
use Rattle.kb_vm.proofs.Frames.{run_keeps}
use Rattle.kb_vm.proofs.Begun.{first_begun}
use Rattle.kb_vm.proofs.Starts.{lacks_first}
use Rattle.kb_vm.proofs.starting.start_begun.Goals as goal

pub returns-in_default-clause-ends : goal.returns-in_default-clause-ends
returns-in_default-clause-ends g c =
    let t = g.L.Commands.live c.args.commands.now in
    let h = c.args.handler in
    let a = run t h c.args.args h.signature.budget outset (first_world c.args.core) in
    let o = c.unspent in
    subst (Ends c.args.core a o.result) (sym o.ensures.finish)
    (lacks_first c.args.core a o.result o.ensures.core o.ensures.lines o.ensures.spent
    (run_keeps t h c.args.args h.signature.budget outset (first_world c.args.core))
    (first_begun t h c.args.args (first_world c.args.core) c.requires))
