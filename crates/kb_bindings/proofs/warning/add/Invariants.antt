use Rattle.std.proofs.Common.{◌≡◌, ◌++◌, drop}
use Rattle.kb_bindings.proofs.warning.add.Given as goal

-- those so far, and then those that are left
abbrev pub invariant-loop-warning : goal.invariant-loop-warning
invariant-loop-warning l = l.all ++ drop l.warning-index l.warnings ≡ l.fn.all ++ l.fn.warnings
