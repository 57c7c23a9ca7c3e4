use Rattle.kb_code.proofs.BlockLemmas.{block_is_innermost}
use Rattle.kb_code.proofs.laws.block_is_innermost.Goals as goal

pub returns : goal.returns
returns c = block_is_innermost
