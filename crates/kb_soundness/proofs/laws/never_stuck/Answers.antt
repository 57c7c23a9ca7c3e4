use Rattle.kb_soundness.proofs.NeverStuck.{never_stuck}
use Rattle.kb_soundness.proofs.laws.never_stuck.Goals as goal

pub returns : goal.returns
returns c = never_stuck
