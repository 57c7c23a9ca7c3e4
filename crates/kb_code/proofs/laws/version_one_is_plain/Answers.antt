use Rattle.kb_code.proofs.PlainLemmas.{version_one_is_plain}
use Rattle.kb_code.proofs.laws.version_one_is_plain.Goals as goal

pub returns : goal.returns
returns c = version_one_is_plain
