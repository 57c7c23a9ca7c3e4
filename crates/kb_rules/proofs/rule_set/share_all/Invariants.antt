use Rattle.std.proofs.Common.{◌≡◌, ◌++◌, map, drop}
use Rattle.kb_rules.proofs.rule_set.share_all.Given as goal

-- the list so far, and then the items that are left
abbrev pub invariant-loop-item : goal.invariant-loop-item
invariant-loop-item g l =
    map (λ r. r.value) l.list ++ map (λ r. r.value) (drop l.item-index l.more)
    ≡ map (λ r. r.value) l.fn.list ++ map (λ r. r.value) l.fn.more
