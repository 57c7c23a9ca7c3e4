use Rattle.std.proofs.Common.{◌≡◌}
use Rattle.kb_problems.specs.Starts.{never_said}
use Rattle.kb_member_lints.proofs.member_lints.add_of_part.Given as goal

abbrev pub invariant-loop-place : goal.invariant-loop-place
invariant-loop-place l = never_said l.problems.items ≡ never_said l.fn.problems.items
