use Rattle.std.proofs.Common.{◌≡◌, ◌++◌, drop}
use Rattle.kb_rules.proofs.rule_list.copy_unread.Given as goal

-- those so far, and then those that are left
abbrev pub invariant-loop-pattern : goal.invariant-loop-pattern
invariant-loop-pattern l = l.list ++ drop l.pattern-index l.more ≡ l.fn.list ++ l.fn.more
