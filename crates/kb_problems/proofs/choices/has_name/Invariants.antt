use Rattle.std.proofs.Common.{◌≡◌, map, drop}
use Rattle.kb_problems.specs.Choices.{is_among}
use Rattle.kb_problems.proofs.choices.has_name.Given as goal

-- those that are left give the same
abbrev pub invariant-loop-one : goal.invariant-loop-one
invariant-loop-one l =
    is_among l.name (map (λ one. one.now) (drop l.one-index l.names))
    ≡ is_among l.fn.name (map (λ one. one.now) l.fn.names)
