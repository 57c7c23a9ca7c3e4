use Rattle.kb_jsonc.proofs.PassLemmas.{past_byte}
use Rattle.kb_jsonc.proofs.scan.pass_byte.Goals as goal

pub returns : goal.returns
returns c = past_byte c.requires.stands c.requires.within c.requires.ordinary
