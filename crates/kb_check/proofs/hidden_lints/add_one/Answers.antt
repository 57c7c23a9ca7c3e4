use Rattle.std.proofs.Common.{rules, ◌≡◌, ◌++◌, ◌∷◌, [], Some, map, slice_get, subst, sym}
use Rattle.kb_problems.specs.Opened.{IsAtOpened}
use Rattle.kb_check.specs.Sound.{AreSound}
use Rattle.kb_check.proofs.StartLemmas.{hidden_adds}
use Rattle.kb_check.proofs.hidden_lints.add_one.Goals as goal

pub returns : goal.returns
returns c = λ enablement hides all.
    let in_force = map (λ r. r.value) c.args.rules.now in
    let rule = c.in-Some.rule.now in
    let problem = c.in_ok-problem.problem in
    let hidden = c.args.hidden in
    let at : slice_get in_force hidden.position ≡ Some rule = search rules in
    let at_rule = IsAtOpened c.args.files.now in
    let placed : at_rule rule problem = search rules in
    let items : c.push.new.self.items ≡ c.args.problems.now.items ++ problem ∷ [] = search rules in
    subst (AreSound at_rule enablement in_force) (sym items)
    (hidden_adds at_rule enablement in_force c.args.how c.args.problems.now.items problem hidden.position hidden.by
    rule hides all at placed)
