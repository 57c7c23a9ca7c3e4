use Rattle.kb_verify.proofs.Listed.{named}
use Rattle.kb_verify.proofs.laws.each_callee_is_named.Goals as goal

pub returns : goal.returns
returns c = named
