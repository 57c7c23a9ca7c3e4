use Rattle.kb_verify.proofs.Listed.{listed}
use Rattle.kb_verify.proofs.laws.each_callee_is_listed.Goals as goal

pub returns : goal.returns
returns c = listed
