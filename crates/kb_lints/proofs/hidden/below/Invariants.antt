use Rattle.std.proofs.Common.{All, map}
use Rattle.kb_resolve.specs.Enablements.{enablement_in}
use Rattle.kb_lints.specs.Hidden.{IsHidden}
use Rattle.kb_lints.proofs.hidden.below.Given as goal

-- each rule that was found so far is hidden
abbrev pub invariant-loop-position : goal.invariant-loop-position
invariant-loop-position l =
    All (IsHidden l.fn.how (enablement_in l.fn.enablements) (map (λ r. r.value) l.fn.rules)) l.found.items
