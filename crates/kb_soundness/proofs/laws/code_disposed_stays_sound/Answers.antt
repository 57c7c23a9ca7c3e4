use Rattle.kb_soundness.proofs.Removals.{code_disposed_stays_sound}
use Rattle.kb_soundness.proofs.laws.code_disposed_stays_sound.Goals as goal

pub returns : goal.returns
returns c = code_disposed_stays_sound
