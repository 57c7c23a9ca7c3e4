use Rattle.kb_extension_code.proofs.Switches.{enabled_stays_settled}
use Rattle.kb_extension_code.proofs.laws.enabled_stays_settled.Goals as goal

pub returns : goal.returns
returns c = enabled_stays_settled
