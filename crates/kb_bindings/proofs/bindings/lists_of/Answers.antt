use Rattle.std.proofs.Common.{◌≡◌, ◌∷◌, ◌++◌, ◌+◌, [], map, drop, arith}
use Rattle.std.proofs.lemmas.Grind.{common_steps}
use Rattle.kb_palette_commands.proofs.ListLemmas.{one_more}
use Rattle.kb_bindings.proofs.bindings.lists_of.Goals as goal

pub loop-extension-preserved : goal.loop-extension-preserved
loop-extension-preserved c =
    let n = c.loop-extension.extension-index in
    let left : drop n c.args.extensions.now ≡ c.extension-item.result ∷ drop (n + 1) c.args.extensions.now =
    grind (arith, common_steps) in
    let made : map (λ list. list.now) c.push.new.self.items
    ≡ map (λ list. list.now) c.loop-extension.lists.items ++ c.extension-item.result.rules ∷ [] =
    grind (arith, common_steps) in
    one_more (λ e. e.rules) _ _ _ _ _ _ left made c.loop-extension.invariant
