use Rattle.std.proofs.Common.{◌≡◌, ◌∷◌, ◌++◌, map, drop}
use Rattle.kb_rules.specs.RuleSet.{enabled_of}
use Rattle.kb_rules.proofs.rule_set.counted_lists.Given as goal

-- the lists so far, and then those that are left
abbrev pub invariant-loop-i : goal.invariant-loop-i
invariant-loop-i l =
    map (λ list. list.now) l.lists.items
    ++ enabled_of (map (λ list. list.now) (drop l.i l.extensions)) (drop l.i l.enabled)
    ≡ l.fn.defaults ∷ enabled_of (map (λ list. list.now) l.fn.extensions) l.fn.enabled
