use Rattle.kb_session.proofs.RunsThrough.{runs_through}
use Rattle.kb_session.proofs.laws.runs_through_when_verified.Goals as goal

pub returns : goal.returns
returns c = runs_through
