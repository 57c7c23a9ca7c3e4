use Rattle.kb_base.proofs.TextLemmas.{without_last-pop}
use Rattle.kb_base.proofs.text.Text.pop.Goals as goal

pub returns-clause-rest : goal.returns-clause-rest
returns-clause-rest c =
    rw (← c.self.view_is)
    (without_last-pop c.self.inside.string c.pop.new.self c.pop.result c.pop.ensures.bytes
    c.pop.ensures.none c.pop.ensures.bound).0

pub returns-clause-cases : goal.returns-clause-cases
returns-clause-cases c =
    rw (← c.self.view_is)
    (without_last-pop c.self.inside.string c.pop.new.self c.pop.result c.pop.ensures.bytes
    c.pop.ensures.none c.pop.ensures.bound).1
