use Rattle.kb_when.proofs.UnreadLemmas.{marked_whole}
use Rattle.kb_when.proofs.clause.Clause.unread.Goals as goal

pub returns-clause-whole : goal.returns-clause-whole
returns-clause-whole c = rw c.as_slice.ensures (marked_whole _ _ _ c.self.invariant.0 c.self.view_is)
