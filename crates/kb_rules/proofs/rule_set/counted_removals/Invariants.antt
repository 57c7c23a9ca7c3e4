use Rattle.std.proofs.Common.{◌≡◌, ◌++◌, map, drop}
use Rattle.kb_rules.specs.RuleSet.{all_removals}
use Rattle.kb_rules.proofs.rule_set.counted_removals.Given as goal

-- the removals so far, and then those of the lists that are left
abbrev pub invariant-loop-list : goal.invariant-loop-list
invariant-loop-list l =
    map (λ r. r.value) l.removals ++ all_removals (map (λ list. list.now) (drop l.list-index l.lists))
    ≡ all_removals (map (λ list. list.now) l.lists)
