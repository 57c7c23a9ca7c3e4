use Rattle.kb_assembly_report.proofs.LawLemmas.{accepted_if_any_would}
use Rattle.kb_assembly_report.proofs.laws.accepted_if_any_would.Goals as goal

pub returns : goal.returns
returns c = accepted_if_any_would
