use Rattle.std.proofs.Common.{sym, ap, ◌∙◌, is_some}
use Rattle.std.specs.FinMap as map
use Rattle.kb_base.proofs.TextMapLemmas.{get_seen}
use Rattle.kb_base.proofs.text_map.TextMap.index_of.Goals as goal

pub returns : goal.returns
returns g c = c.get_index_of.ensures.found
    ∙ ap is_some (sym (get_seen c.self.inside.table.entries c.args.key.now))
    ∙ ap (λ m. map.contains_key m c.args.key.now) c.self.view_is
