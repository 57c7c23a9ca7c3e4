use Rattle.std.proofs.Common.{◌∙◌, ap}
use Rattle.kb_assembly_report.specs.Json.{file_json}
use Rattle.kb_assembly_report.proofs.TranslatingLemmas.{none_written}
use Rattle.kb_assembly_report.proofs.assembling.written.Goals as goal

pub returns : goal.returns
returns c =
    none_written _ _ _ _ _ _ _ _ c.requires.cut c.requires.read c.requires.smallest c.in_ok-entries.ensures
    (c.as_slice-2.ensures ∙ c.in_ok-file.ensures ∙ ap file_json c.as_slice.ensures.value)
    c.in_ok-can_be_written.ensures.all c.if-branch.false c.in_ok-said.ensures
