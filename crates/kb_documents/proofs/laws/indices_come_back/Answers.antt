use Rattle.kb_documents.proofs.PlaceLemmas.{indices_back}
use Rattle.kb_documents.proofs.laws.indices_come_back.Goals as goal

pub returns : goal.returns
returns c = indices_back
