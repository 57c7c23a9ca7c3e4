use Rattle.std.proofs.Common.{◌≡◌, ◌++◌, drop}
use Rattle.kb_rules.proofs.rule_list.copy_warnings.Given as goal

-- those so far, and then those that are left
abbrev pub invariant-loop-warning : goal.invariant-loop-warning
invariant-loop-warning l = l.list ++ drop l.warning-index l.more ≡ l.fn.list ++ l.fn.more
