use Rattle.kb_assembly_report.proofs.LawLemmas.{same_handlers_again}
use Rattle.kb_assembly_report.proofs.laws.same_handlers_again.Goals as goal

pub returns : goal.returns
returns c = same_handlers_again
