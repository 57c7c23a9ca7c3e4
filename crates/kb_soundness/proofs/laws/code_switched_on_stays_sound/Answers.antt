use Rattle.kb_soundness.proofs.Switches.{code_switched_on_stays_sound}
use Rattle.kb_soundness.proofs.laws.code_switched_on_stays_sound.Goals as goal

pub returns : goal.returns
returns c = code_switched_on_stays_sound
