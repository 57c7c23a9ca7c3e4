use Rattle.kb_assembly_report.proofs.RaisingLemmas.{none_rest}
use Rattle.kb_assembly_report.proofs.choosing.all_next.Goals as goal

pub returns-in-None : goal.returns-in-None
returns-in-None c =
    none_rest _ _ _ _ c.loop-left.invariant.rest c.in-len1-up.len_at_least c.draft-item.is
    (rw c.in-None.is at c.in_ok-signature.ensures)
