use Rattle.kb_extension_code.proofs.Closures.{registered_stays_settled}
use Rattle.kb_extension_code.proofs.laws.registered_stays_settled.Goals as goal

pub returns : goal.returns
returns c = registered_stays_settled
