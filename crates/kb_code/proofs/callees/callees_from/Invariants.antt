use Rattle.std.proofs.Common.{◌≡◌, ◌==◌, ◌++◌, length, drop, get_or, false}
use Rattle.kb_code.specs.Callees.{callees_from}
use Rattle.kb_code.proofs.callees.callees_from.Given as goal

-- what was found so far, and then what is found behind it, is the whole
abbrev pub invariant-loop-place : goal.invariant-loop-place
invariant-loop-place l =
    (length l.reached.items ≡ length l.fn.instrs)
    × (callees_from l.fn.code l.fn.calls 0 (λ q. q == 0) l.fn.instrs
    ≡ l.callees.items ++ callees_from l.fn.code l.fn.calls l.place (λ q. get_or l.reached.items q false) (drop
    l.place l.fn.instrs))
