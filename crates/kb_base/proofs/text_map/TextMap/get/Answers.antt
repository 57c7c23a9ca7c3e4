use Rattle.std.proofs.Common.{sym, ap, ◌∙◌}
use Rattle.std.specs.FinMap as map
use Rattle.kb_base.proofs.TextMapLemmas.{get_seen}
use Rattle.kb_base.proofs.text_map.TextMap.get.Goals as goal

pub returns : goal.returns
returns g c = c.get.ensures.value ∙ sym (get_seen c.self.inside.table.entries c.args.key.now)
    ∙ ap (λ m. map.get m c.args.key.now) c.self.view_is
