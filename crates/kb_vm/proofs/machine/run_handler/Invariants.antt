use Rattle.std.proofs.Common.{◌≡◌, ◌≤◌, ◌+◌}
use Rattle.kb_vm.specs.Meaning.{World, run, first_world}
use Rattle.kb_vm.specs.Position.{outset}
use Rattle.kb_vm.specs.Outcome.{Shows}
use Rattle.kb_vm.specs.State.{rest, credit}
use Rattle.kb_vm.proofs.machine.run_handler.Given as goal

-- the rest of the run is the whole run, and cost and remaining budget don't exceed the budget
abbrev pub invariant-loop-next : goal.invariant-loop-next
invariant-loop-next g l =
    let table = g.L.Commands.live l.fn.commands in
    record {
      follows : (w : World) × Shows w l.machine.core l.machine.lines l.machine.spent × (run table l.fn.handler l.fn.args l.fn.handler.signature.budget outset (first_world l.fn.core) ≡ rest table l.machine w);
      bound : l.machine.spent + credit l.machine ≤ l.fn.handler.signature.budget;
    }

abbrev pub decreases-loop-next : goal.decreases-loop-next
decreases-loop-next g l = credit l.machine
