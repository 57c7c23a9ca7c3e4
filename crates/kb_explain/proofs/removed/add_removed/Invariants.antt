use Rattle.std.proofs.Common.{◌≡◌, ◌++◌, drop, map}
use Rattle.std.specs.List.{filter_map}
use Rattle.kb_explain.specs.Removed.{pairs_of, taken_from}
use Rattle.kb_explain.proofs.removed.add_removed.Given as goal

abbrev pub invariant-loop-rule : goal.invariant-loop-rule
invariant-loop-rule l =
    pairs_of l.made.items
    ++ filter_map (taken_from (map (λ r. r.now) l.removals) l.strokes) (map (λ r. r.value) (drop l.rule-index l.rules))
    ≡ pairs_of l.fn.made.items
    ++ filter_map (taken_from (map (λ r. r.now) l.removals) l.strokes) (map (λ r. r.value) l.fn.rules)
