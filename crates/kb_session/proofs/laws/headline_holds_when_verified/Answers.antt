use Rattle.kb_session.proofs.Headlines.{headline_holds}
use Rattle.kb_session.proofs.laws.headline_holds_when_verified.Goals as goal

pub returns : goal.returns
returns c = headline_holds
