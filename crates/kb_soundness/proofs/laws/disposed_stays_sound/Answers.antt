use Rattle.kb_soundness.proofs.Disposals.{disposed_stays_sound}
use Rattle.kb_soundness.proofs.laws.disposed_stays_sound.Goals as goal

pub returns : goal.returns
returns c = disposed_stays_sound
