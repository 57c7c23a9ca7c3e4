use Rattle.std.proofs.Common.{◌≡◌, ◌≤◌, ◌++◌, drop, map}
use Rattle.std.specs.Prelude.{vec_capacity}
use Rattle.kb_vm.specs.Operand.{arg_of}
use Rattle.kb_vm.proofs.given.Given.lent.Given as goal

-- the arguments so far, followed by the remaining ones; the capacity is 8
abbrev pub invariant-loop-arg : goal.invariant-loop-arg
invariant-loop-arg l =
    (map arg_of l.items.items ++ drop l.arg-index l.args ≡ l.args) × (8 ≤ vec_capacity l.items)
