use Rattle.std.proofs.Common.{◌≡◌}
use Rattle.kb_problems.specs.Starts.{never_said}
use Rattle.kb_member_lints.proofs.near_members.add_near_in_each.Given as goal

abbrev pub invariant-loop-piece : goal.invariant-loop-piece
invariant-loop-piece l = never_said l.problems.items ≡ never_said l.fn.problems.items
