use Rattle.kb_soundness.proofs.NeverStuck.{starts_never_stuck}
use Rattle.kb_soundness.proofs.laws.starts_never_stuck.Goals as goal

pub returns : goal.returns
returns c = starts_never_stuck
