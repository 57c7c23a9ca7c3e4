use Rattle.std.proofs.Common.{◌≡◌, ◌∷◌, ◌+◌, drop, arith}
use Rattle.std.proofs.lemmas.Grind.{common_steps}
use Rattle.kb_palette_commands.proofs.ListLemmas.{one_more}
use Rattle.kb_bindings.proofs.bindings.flags_of.Goals as goal

pub loop-extension-preserved : goal.loop-extension-preserved
loop-extension-preserved c =
    let n = c.loop-extension.extension-index in
    let left : drop n c.args.extensions.now ≡ c.extension-item.result ∷ drop (n + 1) c.args.extensions.now =
    grind (arith, common_steps) in
    one_more (λ e. e.enabled) _ _ _ _ _ _ left c.in_ok-push.ensures.items c.loop-extension.invariant
