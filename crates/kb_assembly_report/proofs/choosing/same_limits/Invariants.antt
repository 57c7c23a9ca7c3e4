use Rattle.std.proofs.Common.{◌≡◌, length}
use Rattle.kb_assembly_report.specs.Choice.{same_limits}
use Rattle.kb_assembly_report.proofs.choosing.same_limits.Given as goal

-- those that are left decide
abbrev pub invariant-loop-left : goal.invariant-loop-left
invariant-loop-left l = same_limits l.left l.right ≡ same_limits l.ones l.fn.others

abbrev pub decreases-loop-left : goal.decreases-loop-left
decreases-loop-left l = length l.left
