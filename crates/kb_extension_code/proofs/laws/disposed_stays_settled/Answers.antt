use Rattle.kb_extension_code.proofs.Closures.{disposed_stays_settled}
use Rattle.kb_extension_code.proofs.laws.disposed_stays_settled.Goals as goal

pub returns : goal.returns
returns c = disposed_stays_settled
