use Rattle.std.proofs.Common.{◌≡◌, ◌∙◌, ◌∷◌, subst}
use Rattle.std.specs.Vec.Iter.{into_iter_items}
use Rattle.kb_problems.specs.Placed.{IsAtRule}
use Rattle.kb_check.specs.Sound.{AreSound}
use Rattle.kb_check.proofs.StartLemmas.{others_sound}
use Rattle.kb_check.proofs.problems.add_lints.Goals as goal

pub loop-lint-preserved : goal.loop-lint-preserved
loop-lint-preserved c =
    let kept = c.loop-lint.invariant in
    let added = c.in_ok-add_lint.ensures in
    let rest = into_iter_items c.next.new.self in
    let steps : into_iter_items c.loop-lint.lint-iterator ≡ c.in-Some.lint ∷ rest = c.in-Some.ensures.steps.0 in
    record {
      warnings = added.warnings ∙ kept.warnings;
      wanted = λ before. added.wanted (kept.wanted before);
      placed = λ files before. added.placed files (kept.placed files before);
      left = λ files enablement rules all.
          others_sound (IsAtRule files) enablement rules c.in-Some.lint rest
          (subst (AreSound (IsAtRule files) enablement rules) steps (kept.left files enablement rules all));
      sound = λ files enablement rules all before.
          added.sound files enablement rules rest
          (subst (AreSound (IsAtRule files) enablement rules) steps (kept.left files enablement rules all))
          (kept.sound files enablement rules all before);
    }
