use Rattle.kb_soundness.proofs.Joins.{code_stays_sound}
use Rattle.kb_soundness.proofs.laws.code_stays_sound.Goals as goal

pub returns : goal.returns
returns c = code_stays_sound
