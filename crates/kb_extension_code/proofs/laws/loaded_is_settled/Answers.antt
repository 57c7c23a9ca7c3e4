use Rattle.kb_extension_code.proofs.Loads.{loaded_is_settled}
use Rattle.kb_extension_code.proofs.laws.loaded_is_settled.Goals as goal

pub returns : goal.returns
returns c = loaded_is_settled
