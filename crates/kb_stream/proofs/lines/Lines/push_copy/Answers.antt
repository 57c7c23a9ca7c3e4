use Rattle.kb_stream.proofs.LinesLemmas.{more_are, more_seen}
use Rattle.kb_stream.proofs.lines.Lines.push_copy.Goals as goal

pub invariant_of-self-2 : goal.invariant_of-self-2
invariant_of-self-2 c =
    more_are _ _ _ _ _ c.self.invariant c.utf8.line c.in_ok-append.ensures.text c.in_ok-append.ensures.ends

pub returns-clause-ok : goal.returns-clause-ok
returns-clause-ok c =
    more_seen _ _ _ _ _ _ c.self.invariant c.utf8.line c.in_ok-append.ensures.text
    c.in_ok-append.ensures.ends c.self.view_is
