use Rattle.std.proofs.Common.{rules, ◌≡◌, ◌<◌, length, subst}
use Rattle.kb_handler_report.proofs.FilesLemmas.{fault_within}
use Rattle.kb_handler_report.proofs.files.read_extensions.Goals as goal

pub refused_extension-requires : goal.refused_extension-requires
refused_extension-requires g c =
    let within : c.in-Some.fault.place < length c.as_slice.result.now =
    fault_within c.as_slice.result.now c.in-Some.fault (search rules) in
    let same : c.as_slice.result.now ≡ c.as_slice-in-Some.result.now = search rules in
    subst (λ xs. c.in-Some.fault.place < length xs) same within
