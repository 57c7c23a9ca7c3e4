use Rattle.std.proofs.Common.{rules, ◌≡◌, ◌++◌, ◌∷◌, [], subst, sym}
use Rattle.kb_problems.specs.Placed.{IsAtRule}
use Rattle.kb_check.specs.Sound.{AreSound}
use Rattle.kb_check.proofs.StartLemmas.{sound_adds}
use Rattle.kb_check.proofs.problems.add_lint.Goals as goal

pub returns-clause-sound : goal.returns-clause-sound
returns-clause-sound c = λ files enablement in_force rest all before.
    let items : c.push.new.self.items ≡ c.args.problems.now.items ++ c.args.lint ∷ [] = search rules in
    subst (AreSound (IsAtRule files) enablement in_force) (sym items)
    (sound_adds (IsAtRule files) enablement in_force c.args.problems.now.items c.args.lint rest all before)
