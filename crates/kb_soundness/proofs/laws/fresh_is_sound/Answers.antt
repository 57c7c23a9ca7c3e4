use Rattle.kb_soundness.proofs.Stays.{fresh_is_sound}
use Rattle.kb_soundness.proofs.laws.fresh_is_sound.Goals as goal

pub returns : goal.returns
returns c = fresh_is_sound
