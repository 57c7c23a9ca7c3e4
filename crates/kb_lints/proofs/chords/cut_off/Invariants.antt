use Rattle.std.proofs.Common.{All, map}
use Rattle.kb_resolve.specs.Enablements.{enablement_in}
use Rattle.kb_lints.specs.CutOff.{IsCutOff, IsTaking}
use Rattle.kb_lints.proofs.chords.cut_off.Given as goal

-- each rule that was found so far is cut off
abbrev pub invariant-loop-position : goal.invariant-loop-position
invariant-loop-position l = record {
  found : All (λ c. IsCutOff (enablement_in l.fn.enablements) (map (λ r. r.value) l.fn.rules) c.position c.by) l.found.items;
  taking : All (IsTaking (enablement_in l.fn.enablements) (map (λ r. r.value) l.fn.rules)) l.taking.positions.items;
}
