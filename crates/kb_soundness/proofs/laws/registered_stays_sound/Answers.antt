use Rattle.kb_soundness.proofs.Stays.{registered_stays_sound}
use Rattle.kb_soundness.proofs.laws.registered_stays_sound.Goals as goal

pub returns : goal.returns
returns c = registered_stays_sound
