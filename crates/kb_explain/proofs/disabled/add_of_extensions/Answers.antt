use Rattle.std.proofs.Common.{◌≡◌, ◌∷◌, ◌+◌, drop, arith}
use Rattle.std.proofs.lemmas.Grind.{common_steps}
use Rattle.kb_explain.specs.Disabled.{disabled_of}
use Rattle.kb_explain.proofs.RemovedLemmas.{one_more_list}
use Rattle.kb_explain.proofs.disabled.add_of_extensions.Goals as goal

pub loop-extension-preserved : goal.loop-extension-preserved
loop-extension-preserved c =
    let n = c.loop-extension.extension-index in
    let left : drop n c.args.extensions.now ≡ c.extension-item.result ∷ drop (n + 1) c.args.extensions.now =
    grind (arith, common_steps) in
    one_more_list (disabled_of c.args.strokes.now) _ _ _ _ _ _ left
    c.in_ok-add_of_extension.ensures c.loop-extension.invariant
