use Rattle.kb_code.proofs.CodingLemmas.{reads_the_same}
use Rattle.kb_code.proofs.laws.reads_the_same.Goals as goal

pub returns : goal.returns
returns c = reads_the_same
