use Rattle.kb_documents.proofs.PlaceLemmas.{positions_back}
use Rattle.kb_documents.proofs.laws.positions_come_back.Goals as goal

pub returns : goal.returns
returns c = positions_back
