use Rattle.std.proofs.Common.{map}
use Rattle.kb_resolve.specs.Enablements.{enablement_in}
use Rattle.kb_lints.proofs.TakingLemmas.{TakesFirst}
use Rattle.kb_lints.proofs.chords.takes_all.Given as goal

abbrev pub invariant-loop-place : goal.invariant-loop-place
invariant-loop-place l =
    TakesFirst (enablement_in l.fn.enablements) (map (λ r. r.value) l.fn.rules) l.fn.position l.fn.rule l.place
