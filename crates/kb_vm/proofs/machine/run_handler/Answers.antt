use Rattle.std.proofs.Common.{inl, inr, refl, sym, subst}
use Rattle.kb_vm.specs.Meaning.{run, first_world}
use Rattle.kb_vm.specs.Position.{outset}
use Rattle.kb_vm.specs.Outcome.{Ends, Precedes, world_of}
use Rattle.kb_vm.proofs.Frames.{run_keeps}
use Rattle.kb_vm.proofs.Begun.{first_begun}
use Rattle.kb_vm.proofs.Starts.{unspent_shows, taken_shows}
use Rattle.kb_vm.proofs.Turns.{begun, begun_shows, begun_bound}
use Rattle.kb_vm.proofs.machine.run_handler.Goals as goal

pub returns-in-Err-clause-ends : goal.returns-in-Err-clause-ends
returns-in-Err-clause-ends g c =
    let h = c.args.handler in
    let w = first_world c.args.core in (
      w,
      unspent_shows c.args.core _ _ 0 c.in-Err.ensures.err c.new.ensures refl,
      run_keeps (g.L.Commands.live c.args.commands.now) h c.args.args h.signature.budget outset w,
      inl (refl, first_begun (g.L.Commands.live c.args.commands.now) h c.args.args w c.requires),
    )

pub loop-next-init : goal.loop-next-init
loop-next-init g c =
    let t = g.L.Commands.live c.args.commands.now in
    let m = c.in-Ok.machine in
    let b = c.in-Ok.ensures.ok in
    record {
      follows = (
        first_world c.args.core,
        begun_shows c.args.handler c.args.args c.args.core m b,
        begun t c.args.handler c.args.args c.args.core m b,
      );
      bound = begun_bound c.args.handler c.args.args c.args.core m b;
    }

pub returns-in-NoMemory-clause-ends : goal.returns-in-NoMemory-clause-ends
returns-in-NoMemory-clause-ends g c =
    let h = c.args.handler in
    let a = run (g.L.Commands.live c.args.commands.now) h c.args.args h.signature.budget outset (first_world c.args.core) in
    let f = c.loop-next.invariant.follows in
    let o = c.ended_with-in-NoMemory in
    let n = c.in-NoMemory.last in
    let turned = c.in-NoMemory.ensures.turned f.0 f.1 in
    subst (Ends c.args.core a o.result) (sym o.ensures.finish) (
      turned.0,
      taken_shows turned.0 n.core n.lines n.spent o.result o.ensures.core o.ensures.lines o.ensures.spent turned.1,
      subst (λ b. Precedes turned.0 (world_of b)) (sym f.2) turned.2,
      inr turned.3,
    )
