use Rattle.kb_explain_report.proofs.SaidLemmas.{more_after}
use Rattle.kb_explain_report.proofs.dropped_said.say_dropped.Goals as goal

pub returns : goal.returns
returns g c =
    more_after _ _ _
    (more_after _ _ _ c.in_ok-say_of_list.ensures c.in_ok-say_of_extensions.ensures)
    c.in_ok-say_of_list-2.ensures
