use Rattle.kb_soundness.proofs.Exchanges.{code_exchanged_stays_sound}
use Rattle.kb_soundness.proofs.laws.code_exchanged_stays_sound.Goals as goal

pub returns : goal.returns
returns c = code_exchanged_stays_sound
