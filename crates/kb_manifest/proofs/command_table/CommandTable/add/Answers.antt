use Rattle.std.proofs.Common.{ap, sym, ◌∙◌}
use Rattle.kb_manifest.specs.CommandTable.{by_name, is_there, with_first}
use Rattle.kb_manifest.proofs.CommandTableLemmas.{there_seen, stays, added}
use Rattle.kb_manifest.proofs.command_table.CommandTable.add.Goals as goal

pub returns-then-contains_key : goal.returns-then-contains_key
returns-then-contains_key c =
    stays c.args.named c.args.self.now
    (ap (is_there c.args.named.name) (sym c.self.view_is)
    ∙ ap (λ name. is_there name (by_name c.self.inside.table.entries)) (sym c.as_str.ensures)
    ∙ sym (there_seen c.as_str.result.now c.self.inside.table.entries)
    ∙ sym c.contains_key.ensures ∙ c.if-contains_key.true)

pub returns : goal.returns
returns c =
    ap by_name c.in_ok-insert.ensures.entries
    ∙ added c.args.named c.into_string.result c.self.inside.table.entries c.into_string.ensures
    (ap (λ name. is_there name (by_name c.self.inside.table.entries)) (sym c.as_str.ensures)
    ∙ sym (there_seen c.as_str.result.now c.self.inside.table.entries)
    ∙ sym c.contains_key.ensures ∙ c.if-contains_key.false)
    ∙ ap (with_first c.args.named) c.self.view_is
