use Rattle.kb_extension_code.proofs.Exchanges.{updated_stays_settled}
use Rattle.kb_extension_code.proofs.laws.updated_stays_settled.Goals as goal

pub returns : goal.returns
returns c = updated_stays_settled
