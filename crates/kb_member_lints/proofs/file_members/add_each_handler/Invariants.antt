use Rattle.std.proofs.Common.{◌≡◌}
use Rattle.kb_problems.specs.Starts.{never_said}
use Rattle.kb_member_lints.proofs.file_members.add_each_handler.Given as goal

abbrev pub invariant-loop-handler : goal.invariant-loop-handler
invariant-loop-handler l = never_said l.problems.items ≡ never_said l.fn.problems.items
