use Rattle.std.proofs.Common.{◌≡◌}
use Rattle.kb_problems.specs.Starts.{never_said}
use Rattle.kb_check.proofs.context_keys.add_of_items.Given as goal

abbrev pub invariant-loop-item : goal.invariant-loop-item
invariant-loop-item l = never_said l.problems.items ≡ never_said l.fn.problems.items
