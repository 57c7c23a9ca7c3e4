use Rattle.kb_soundness.proofs.Callees.{verified_by_callees}
use Rattle.kb_soundness.proofs.laws.verified_by_callees.Goals as goal

pub returns : goal.returns
returns c = verified_by_callees
