use Rattle.std.proofs.Common.{◌≡◌, ◌∷◌, ◌+◌, drop, get_or, false, arith}
use Rattle.std.proofs.lemmas.Grind.{common_steps}
use Rattle.kb_rules.proofs.EnabledLemmas.{enabled_next}
use Rattle.kb_rules.proofs.rule_set.counted_lists.Goals as goal

pub loop-i-preserved : goal.loop-i-preserved
loop-i-preserved c =
    let i = c.loop-i.i in
    let list : drop i c.args.extensions.now ≡ c.index-extensions-i.result ∷ drop (i + 1) c.args.extensions.now =
    grind (arith, common_steps) in
    let flag : drop i c.args.enabled.now ≡ get_or c.args.enabled.now i false ∷ drop (i + 1) c.args.enabled.now =
    grind (arith, common_steps) in
    enabled_next _ _ _ _ _ _ _ _ _ _ list flag c.in_ok-push_enabled.ensures c.loop-i.invariant
