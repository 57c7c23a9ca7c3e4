use Rattle.std.proofs.Common.{◌≡◌, length}
use Rattle.kb_engine.specs.Steps.{last_step}
use Rattle.kb_engine.proofs.steps.last_step.Given as goal

-- the lines that are left give the same
abbrev pub invariant-loop-left : goal.invariant-loop-left
invariant-loop-left l = last_step l.trace l.left ≡ last_step l.fn.trace (length l.fn.trace)

abbrev pub decreases-loop-left : goal.decreases-loop-left
decreases-loop-left l = l.left
