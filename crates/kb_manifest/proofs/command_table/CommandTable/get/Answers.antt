use Rattle.std.proofs.Common.{ap, ◌∙◌}
use Rattle.kb_manifest.specs.CommandTable.{command_named}
use Rattle.kb_manifest.proofs.CommandTableLemmas.{named_seen}
use Rattle.kb_manifest.proofs.command_table.CommandTable.get.Goals as goal

pub returns : goal.returns
returns c =
    c.get.ensures.value ∙ named_seen c.args.name.now c.self.inside.table.entries
    ∙ ap (command_named c.args.name.now) c.self.view_is
