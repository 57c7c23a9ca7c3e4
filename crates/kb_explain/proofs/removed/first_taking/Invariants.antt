use Rattle.std.proofs.Common.{◌≡◌, drop, map}
use Rattle.std.specs.List.{find}
use Rattle.kb_rules.specs.Removal.{takes}
use Rattle.kb_explain.proofs.removed.first_taking.Given as goal

-- those that are left give the same
abbrev pub invariant-loop-removal : goal.invariant-loop-removal
invariant-loop-removal l =
    find (λ removal. takes removal l.rule) (map (λ r. r.now) (drop l.removal-index l.removals))
    ≡ find (λ removal. takes removal l.rule) (map (λ r. r.now) l.removals)
