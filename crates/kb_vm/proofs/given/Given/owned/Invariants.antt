use Rattle.std.proofs.Common.{◌≡◌, ◌++◌, drop, map}
use Rattle.kb_vm.specs.Operand.{arg_of}
use Rattle.kb_vm.proofs.given.Given.owned.Given as goal

-- the arguments so far, followed by the remaining ones
abbrev pub invariant-loop-item : goal.invariant-loop-item
invariant-loop-item l = l.args ++ map arg_of (drop l.item-index l.item-items) ≡ l.self
