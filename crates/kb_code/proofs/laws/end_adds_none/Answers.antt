use Rattle.kb_code.proofs.Entries.{end_adds_none}
use Rattle.kb_code.proofs.laws.end_adds_none.Goals as goal

pub returns : goal.returns
returns c = end_adds_none
