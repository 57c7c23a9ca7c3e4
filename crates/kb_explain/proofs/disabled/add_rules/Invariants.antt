use Rattle.std.proofs.Common.{◌≡◌, ◌++◌, drop, map}
use Rattle.std.specs.List.{filter_map}
use Rattle.kb_explain.specs.Disabled.{on_strokes}
use Rattle.kb_explain.proofs.disabled.add_rules.Given as goal

abbrev pub invariant-loop-rule : goal.invariant-loop-rule
invariant-loop-rule l =
    map (λ r. r.now) l.made.items
    ++ filter_map (on_strokes l.strokes) (map (λ r. r.value) (drop l.rule-index l.rules))
    ≡ map (λ r. r.now) l.fn.made.items
    ++ filter_map (on_strokes l.strokes) (map (λ r. r.value) l.fn.rules)
