use Rattle.kb_extension_code.proofs.Switches.{disabled_stays_settled}
use Rattle.kb_extension_code.proofs.laws.disabled_stays_settled.Goals as goal

pub returns : goal.returns
returns c = disabled_stays_settled
