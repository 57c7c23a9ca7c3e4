use Rattle.std.proofs.Common.{◌≡◌, ◌++◌, map, drop}
use Rattle.std.specs.List.{flat_map}
use Rattle.kb_rules.specs.RemovalIndex.{left_in}
use Rattle.kb_rules.proofs.rule_set.left_rules.Given as goal

-- the rules so far, and then what is left in the lists that follow
abbrev pub invariant-loop-list : goal.invariant-loop-list
invariant-loop-list l =
    map (λ r. r.value) l.rules
    ++ flat_map (λ list. left_in l.index list.rules) (map (λ list. list.now) (drop l.list-index l.lists))
    ≡ flat_map (λ list. left_in l.index list.rules) (map (λ list. list.now) l.lists)
