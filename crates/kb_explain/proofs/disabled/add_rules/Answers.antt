use Rattle.std.proofs.Common.{◌≡◌, ◌++◌, ◌∷◌, ◌+◌, drop, map, option_to_list, arith, subst}
use Rattle.std.proofs.lemmas.Grind.{common_steps}
use Rattle.kb_explain.specs.Disabled.{on_strokes}
use Rattle.kb_explain.proofs.RemovedLemmas.{one_more_passed}
use Rattle.kb_explain.proofs.disabled.add_rules.Goals as goal
use Rattle.kb_rules.specs.declared.rule.Rule.{Rule}

pub loop-rule-preserved : goal.loop-rule-preserved
loop-rule-preserved c =
    let n = c.loop-rule.rule-index in
    let left : drop n c.args.rules.now ≡ c.rule-item.result ∷ drop (n + 1) c.args.rules.now =
    grind (arith, common_steps) in
    let on = on_strokes c.args.strokes.now in
    let made = subst
    (λ (r : Rule). map (λ r. r.now) c.add_one.new.made.items
    ≡ map (λ r. r.now) c.loop-rule.made.items ++ option_to_list (on r)) c.deref.ensures c.in_ok-add_one.ensures in
    one_more_passed (λ r. r.value) on _ _ _ _ _ _ left made c.loop-rule.invariant
