use Rattle.kb_messages.proofs.StreamLemmas.{pieces}
use Rattle.kb_messages.proofs.laws.pieces_change_nothing.Goals as goal

pub returns : goal.returns
returns c = pieces
