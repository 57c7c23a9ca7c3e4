use Rattle.kb_code.proofs.PlainLemmas.{plain_has_no_blocks}
use Rattle.kb_code.proofs.laws.plain_has_no_blocks.Goals as goal

pub returns : goal.returns
returns c = plain_has_no_blocks
