use Rattle.std.proofs.Common.{ap, sym, ◌∙◌}
use Rattle.std.specs.FinMap as map
use Rattle.kb_base.proofs.TextMapLemmas.{len_seen}
use Rattle.kb_base.proofs.text_map.TextMap.len.Goals as goal

pub returns-clause-len : goal.returns-clause-len
returns-clause-len g c =
    c.len.ensures.len ∙ sym (len_seen c.self.inside.table.entries c.len.ensures.unique)
    ∙ ap map.len c.self.view_is
