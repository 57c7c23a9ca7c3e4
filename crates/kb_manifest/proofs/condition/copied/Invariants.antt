use Rattle.std.proofs.Common.{◌≡◌, ◌++◌, drop}
use Rattle.kb_manifest.proofs.condition.copied.Given as goal

-- what is copied, and then those that are left
abbrev pub invariant-loop-unread : goal.invariant-loop-unread
invariant-loop-unread l = l.made ++ drop l.unread-index l.patterns ≡ l.fn.patterns
