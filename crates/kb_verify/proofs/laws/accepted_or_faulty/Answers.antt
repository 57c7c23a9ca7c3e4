use Rattle.kb_verify.proofs.Decides.{accepted_or_faulty}
use Rattle.kb_verify.proofs.laws.accepted_or_faulty.Goals as goal

pub returns : goal.returns
returns c = accepted_or_faulty
