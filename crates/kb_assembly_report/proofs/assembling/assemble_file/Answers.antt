use Rattle.std.proofs.Common.{◌∙◌, ap, sym}
use Rattle.kb_assembly.specs.File.{assemble}
use Rattle.kb_assembly_report.proofs.TranslatingLemmas.{not_read}
use Rattle.kb_assembly_report.proofs.assembling.assemble_file.Goals as goal

pub returns-in_ok-said-in-Err-Fault : goal.returns-in_ok-said-in-Err-Fault
returns-in_ok-said-in-Err-Fault c =
    let w = c.in-Err-Fault in
    let fails = rw w.field-0-is at w.ensures.exact in
    not_read c.args.bytes.now w.first c.in_ok-said-in-Err-Fault.said
    (ap assemble (sym c.without_mark-text.ensures) ∙ fails) c.in_ok-said-in-Err-Fault.ensures
