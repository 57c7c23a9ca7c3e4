use Rattle.std.proofs.Common.{◌≡◌, ◌++◌, map, drop}
use Rattle.kb_rules.specs.RemovalIndex.{left_in}
use Rattle.kb_rules.proofs.rule_set.share_left.Given as goal

-- the rules so far, and then what is left of those that follow
abbrev pub invariant-loop-rule : goal.invariant-loop-rule
invariant-loop-rule l =
    map (λ r. r.value) l.rules ++ left_in l.index (map (λ r. r.value) (drop l.rule-index l.more))
    ≡ map (λ r. r.value) l.fn.rules ++ left_in l.index (map (λ r. r.value) l.fn.more)
