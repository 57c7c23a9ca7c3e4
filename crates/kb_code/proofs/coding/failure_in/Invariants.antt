use Rattle.std.proofs.Common.{◌≡◌, ◌+◌, ◌*◌, length}
use Rattle.kb_code.specs.Coding.{code_from, failure_of}
use Rattle.kb_code.proofs.coding.failure_in.Given as goal

-- what is left has the first fault
abbrev pub invariant-loop-left : goal.invariant-loop-left
invariant-loop-left l =
    (failure_of (code_from l.fn.version 0 l.fn.bytes) ≡ failure_of (code_from l.fn.version l.place l.left))
    × (3 * l.place + length l.left ≡ length l.fn.bytes)

abbrev pub decreases-loop-left : goal.decreases-loop-left
decreases-loop-left l = length l.left
