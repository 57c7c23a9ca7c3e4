use Rattle.std.proofs.Common.{◌≡◌, ◌∙◌, sym, subst, rules}
use Rattle.kb_vm.specs.Meaning.{Done, first_world, native_called}
use Rattle.kb_vm.specs.Outcome.{Ends}
use Rattle.kb_vm.proofs.Frames.{precedes_native}
use Rattle.kb_vm.proofs.Starts.{lacks_first}
use Rattle.kb_vm.proofs.starting.start_native.Goals as goal

pub returns-in-Err-clause-ends : goal.returns-in-Err-clause-ends
returns-in-Err-clause-ends g c =
    let w = first_world c.args.core in
    let a = Done (native_called c.args.native c.args.args w) in
    let o = c.unspent in
    let same : c.call-core.result.core ≡ c.args.core = search rules in
    subst (Ends c.args.core a o.result) (sym o.ensures.finish)
    (lacks_first c.args.core a o.result (o.ensures.core ∙ same) o.ensures.lines o.ensures.spent
    (precedes_native c.args.native c.args.args w) tt)
