use Rattle.std.proofs.Common.{string_bytes, ap, sym, ◌∙◌}
use Rattle.std.specs.FinMap as map
use Rattle.kb_base.proofs.TextMapLemmas.{seen, seen_inserted, absent_seen, OnErr-holds}
use Rattle.kb_base.proofs.text_map.TextMap.insert.Goals as goal

pub returns-clause-ok : goal.returns-clause-ok
returns-clause-ok g c =
    seen_inserted c.self.inside.table c.insert.new.self
    (string_bytes c.into_string.result) c.args.value c.in_ok-insert.ensures.updates
    ∙ ap (λ k. map.insert (seen c.self.inside.table.entries) k c.args.value) c.into_string.ensures
    ∙ ap (λ m. map.insert m c.args.key c.args.value) c.self.view_is

pub returns-in_err-insert-clause-absent : goal.returns-in_err-insert-clause-absent
returns-in_err-insert-clause-absent g c = OnErr-holds _ (
    ap (λ m. map.contains_key m c.args.key) (sym c.self.view_is)
    ∙ ap (map.contains_key (seen c.self.inside.table.entries)) (sym c.into_string.ensures)
    ∙ absent_seen c.self.inside.table (string_bytes c.into_string.result) c.in_err-insert.ensures.absent)
