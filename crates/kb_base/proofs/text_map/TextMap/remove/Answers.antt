use Rattle.std.proofs.Common.{ap, ◌∙◌}
use Rattle.std.specs.FinMap as map
use Rattle.kb_base.proofs.TextMapLemmas.{seen_removed}
use Rattle.kb_base.proofs.text_map.TextMap.remove.Goals as goal

pub returns : goal.returns
returns g c = seen_removed c.self.inside.table c.swap_remove.new.self c.args.key.now c.swap_remove.ensures.updates
    ∙ ap (λ m. map.remove m c.args.key.now) c.self.view_is
