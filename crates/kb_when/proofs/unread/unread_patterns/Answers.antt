use Rattle.kb_when.proofs.UnreadLemmas.{kept}
use Rattle.kb_when.proofs.unread.unread_patterns.Goals as goal

pub returns : goal.returns
returns c =
    kept _ _ _ c.new-noted.ensures c.in_ok-note_patterns.ensures.right c.in_ok-note_patterns.ensures.noted
