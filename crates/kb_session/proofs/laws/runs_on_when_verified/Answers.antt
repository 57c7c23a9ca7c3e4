use Rattle.kb_session.proofs.Sound.{runs_on}
use Rattle.kb_session.proofs.laws.runs_on_when_verified.Goals as goal

pub returns : goal.returns
returns c = runs_on
