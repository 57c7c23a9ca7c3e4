use Rattle.kb_soundness.proofs.Loads.{no_code_stays_sound}
use Rattle.kb_soundness.proofs.laws.no_code_stays_sound.Goals as goal

pub returns : goal.returns
returns c = no_code_stays_sound
