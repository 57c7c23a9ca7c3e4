use Rattle.std.proofs.Common.{◌≡◌, map, drop}
use Rattle.std.specs.List.{list_any}
use Rattle.kb_rules.specs.Removal.{takes}
use Rattle.kb_rules.proofs.removal_index.some_takes.Given as goal

-- those that are left give the same
abbrev pub invariant-loop-removal : goal.invariant-loop-removal
invariant-loop-removal l =
    list_any (λ removal. takes removal l.rule) (map (λ r. r.value) (drop l.removal-index l.removals))
    ≡ list_any (λ removal. takes removal l.rule) (map (λ r. r.value) l.removals)
