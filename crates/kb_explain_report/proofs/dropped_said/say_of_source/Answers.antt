use Rattle.kb_explain_report.proofs.SaidLemmas.{more_after}
use Rattle.kb_explain_report.proofs.dropped_said.say_of_source.Goals as goal
use Rattle.kb_explain_report.proofs.dropped_said.say_of_source.Goals.{then-is_meant+in_ok-say_one}
use Rattle.kb_explain_report.proofs.dropped_said.say_of_source.Goals.{else-is_meant}

pub loop-warning-preserved : goal.loop-warning-preserved
loop-warning-preserved g c = elim c.if-is_meant.branch [
  | then-is_meant+in_ok-say_one w ↦
      rw w.out-is (more_after _ _ _ c.loop-warning.invariant w.in_ok-say_one.ensures)
  | else-is_meant w ↦ rw w.out-is c.loop-warning.invariant
]
