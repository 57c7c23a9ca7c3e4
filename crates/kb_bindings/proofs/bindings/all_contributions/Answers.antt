use Rattle.std.proofs.Common.{◌≡◌, ◌∷◌, ◌+◌, drop, arith}
use Rattle.std.proofs.lemmas.Grind.{common_steps}
use Rattle.kb_bindings.specs.Sources.{contributions_of}
use Rattle.kb_palette_commands.proofs.ListLemmas.{one_more_list}
use Rattle.kb_bindings.proofs.bindings.all_contributions.Goals as goal

pub loop-extension-preserved : goal.loop-extension-preserved
loop-extension-preserved c =
    let n = c.loop-extension.extension-index in
    let left : drop n c.args.extensions.now ≡ c.extension-item.result ∷ drop (n + 1) c.args.extensions.now =
    grind (arith, common_steps) in
    one_more_list contributions_of _ _ _ _ _ _ left c.in_ok-add_contributions.ensures c.loop-extension.invariant
