use Rattle.std.proofs.Common.{sym, ap, ◌∙◌, string_bytes}
use Rattle.std.specs.FinMap as map
use Rattle.kb_base.proofs.TextMapLemmas.{get_seen}
use Rattle.kb_base.proofs.text_map.TextMap.entry_at.Goals as goal

pub returns-in-Some : goal.returns-in-Some
returns-in-Some g c =
    ap (map.get c.args.self.now) c.as_str.ensures.value
    ∙ sym (ap (λ m. map.get m (string_bytes c.in-Some.key.now)) c.self.view_is)
    ∙ get_seen c.self.inside.table.entries (string_bytes c.in-Some.key.now)
    ∙ c.in-Some.ensures.value
