use Rattle.std.proofs.Common.{◌≡◌}
use Rattle.kb_problems.specs.Starts.{never_said}
use Rattle.kb_check.proofs.pattern_lints.add_unread_patterns.Given as goal

abbrev pub invariant-loop-pattern : goal.invariant-loop-pattern
invariant-loop-pattern l = never_said l.problems.items ≡ never_said l.fn.problems.items
