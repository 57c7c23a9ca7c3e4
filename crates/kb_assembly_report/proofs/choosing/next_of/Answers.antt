use Rattle.kb_assembly_report.proofs.RaisingLemmas.{next_is, none_accepted, none_within}
use Rattle.kb_assembly_report.proofs.choosing.next_of.Goals as goal

pub returns-in-Some-3 : goal.returns-in-Some-3
returns-in-Some-3 c =
    let made = rw c.in-Some-3.is at c.in_ok-signature-in-Some-2.ensures in
    next_is _ _ _ _ _ (rw c.in-Some.is at c.in_ok-depth.ensures)
    (rw c.in-Some-2.is at c.in_ok-budget-in-Some.ensures) made.0 made.1

pub returns-in-None-3 : goal.returns-in-None-3
returns-in-None-3 c =
    none_within _ _ _ _ (rw c.in-Some.is at c.in_ok-depth.ensures)
    (rw c.in-Some-2.is at c.in_ok-budget-in-Some.ensures)
    (rw c.in-None-3.is at c.in_ok-signature-in-Some-2.ensures)

pub returns-in-None-2 : goal.returns-in-None-2
returns-in-None-2 c =
    none_accepted _ _ _ (rw c.in-Some.is at c.in_ok-depth.ensures)
    (rw c.in-None-2.is at c.in_ok-budget-in-Some.ensures)
