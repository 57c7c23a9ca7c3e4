use Rattle.std.proofs.Common.{◌≡◌, ◌≤◌, ◌+◌, length}
use Rattle.kb_engine.specs.Steps.{steps_begun}
use Rattle.kb_engine.proofs.steps.steps_begun.Given as goal

-- those so far and those of the lines that are left
abbrev pub invariant-loop-left : goal.invariant-loop-left
invariant-loop-left l = record {
  counted : l.begun + steps_begun l.trace l.left ≡ steps_begun l.fn.trace (length l.fn.trace);
  room : l.begun + l.left ≤ length l.fn.trace;
}

abbrev pub decreases-loop-left : goal.decreases-loop-left
decreases-loop-left l = l.left
