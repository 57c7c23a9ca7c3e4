use Rattle.kb_code.proofs.SameLemmas.{same_is_equal}
use Rattle.kb_code.proofs.laws.same_is_equal.Goals as goal

pub returns : goal.returns
returns c = same_is_equal
