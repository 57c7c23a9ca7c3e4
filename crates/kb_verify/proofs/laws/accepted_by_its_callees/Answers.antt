use Rattle.kb_verify.proofs.Swapped.{accepted_too}
use Rattle.kb_verify.proofs.laws.accepted_by_its_callees.Goals as goal

pub returns : goal.returns
returns c = accepted_too
