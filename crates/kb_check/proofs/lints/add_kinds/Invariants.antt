use Rattle.kb_bindings.specs.Sources.{enablement, rules_of}
use Rattle.kb_problems.specs.Opened.{IsAtOpened}
use Rattle.kb_check.specs.Sound.{AreSound}
use Rattle.kb_check.proofs.lints.add_kinds.Given as goal

abbrev pub invariant-loop-kind : goal.invariant-loop-kind
invariant-loop-kind l =
    AreSound (IsAtOpened l.fn.files) (enablement l.fn.accepted.bindings.now) (rules_of l.fn.accepted.bindings.now)
    l.fn.problems.items
    → AreSound (IsAtOpened l.fn.files) (enablement l.fn.accepted.bindings.now)
    (rules_of l.fn.accepted.bindings.now) l.problems.items
