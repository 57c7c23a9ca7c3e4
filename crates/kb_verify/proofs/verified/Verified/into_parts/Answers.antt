use Rattle.std.proofs.Common.{subst}
use Rattle.kb_verify.specs.Accepted.{IsChecked}
use Rattle.kb_verify.proofs.verified.Verified.into_parts.Goals as goal

pub returns-clause-accepted : goal.returns-clause-accepted
returns-clause-accepted c = subst IsChecked c.self.view_is c.self.invariant
