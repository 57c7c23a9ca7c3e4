use Rattle.std.proofs.Common.{◌≤◌}
use Rattle.kb_vm.specs.Position.{standing}
use Rattle.kb_vm.proofs.Runs.{Far}
use Rattle.kb_vm.proofs.machine.run_on.Given as goal

-- the rest of the frame's run is the whole run
abbrev pub invariant-loop-instr : goal.invariant-loop-instr
invariant-loop-instr l = record {
  far : Far l.fn.handler l.fn.args l.fn.core (standing l.fn.place l.fn.turns l.fn.operands) l.fn.left l.place l.left l.turns l.operands;
  few : l.left ≤ l.fn.left;
}

abbrev pub decreases-loop-instr : goal.decreases-loop-instr
decreases-loop-instr l = l.left
