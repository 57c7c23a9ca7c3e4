use Rattle.std.proofs.Common.{All, map}
use Rattle.kb_resolve.specs.Enablements.{enablement_in}
use Rattle.kb_lints.specs.CutOff.{IsTaking}
use Rattle.kb_lints.proofs.chords.taking_rules.Given as goal

-- each rule that was noted takes its keystrokes from all longer ones
abbrev pub invariant-loop-position : goal.invariant-loop-position
invariant-loop-position l =
    All (IsTaking (enablement_in l.fn.enablements) (map (λ r. r.value) l.fn.rules)) l.taking.positions.items
