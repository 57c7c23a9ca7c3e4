use Rattle.std.proofs.Common.{◌≡◌, ◌++◌, drop}
use Rattle.kb_bindings.proofs.unread.add.Given as goal

-- those so far, and then those that are left
abbrev pub invariant-loop-one : goal.invariant-loop-one
invariant-loop-one l = l.all ++ drop l.one-index l.unread ≡ l.fn.all ++ l.fn.unread
