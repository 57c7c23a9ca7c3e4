use Rattle.kb_messages.proofs.FrameLemmas.{written_is_received}
use Rattle.kb_messages.proofs.laws.what_is_written_is_received.Goals as goal

pub returns : goal.returns
returns c = written_is_received
