use Rattle.std.proofs.Common.{◌≡◌, ◌++◌, drop, map}
use Rattle.kb_explain.proofs.removed.add_each.Given as goal

abbrev pub invariant-loop-removal : goal.invariant-loop-removal
invariant-loop-removal l =
    map (λ r. r.now) l.made.items ++ map (λ r. r.value) (drop l.removal-index l.removals)
    ≡ map (λ r. r.now) l.fn.made.items ++ map (λ r. r.value) l.fn.removals
