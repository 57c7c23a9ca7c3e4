use Rattle.std.proofs.Common.{map}
use Rattle.kb_resolve.specs.Enablements.{enablement_in}
use Rattle.kb_problems.specs.Opened.{IsAtOpened}
use Rattle.kb_check.specs.Sound.{AreSound}
use Rattle.kb_check.proofs.hidden_lints.add_hidden.Given as goal

abbrev pub invariant-loop-number : goal.invariant-loop-number
invariant-loop-number l =
    AreSound (IsAtOpened l.fn.files) (enablement_in l.fn.enablements) (map (λ r. r.value) l.fn.rules) l.fn.problems.items
    → AreSound (IsAtOpened l.fn.files) (enablement_in l.fn.enablements) (map (λ r. r.value) l.fn.rules) l.problems.items
