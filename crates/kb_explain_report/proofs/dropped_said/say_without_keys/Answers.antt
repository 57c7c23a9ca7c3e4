use Rattle.kb_explain_report.proofs.SaidLemmas.{more_after}
use Rattle.kb_explain_report.proofs.dropped_said.say_without_keys.Goals as goal
use Rattle.kb_explain_report.proofs.dropped_said.say_without_keys.Goals.{then-is_dropped+in_ok-say_one}
use Rattle.kb_explain_report.proofs.dropped_said.say_without_keys.Goals.{else-is_dropped}

pub loop-warning-preserved : goal.loop-warning-preserved
loop-warning-preserved g c = elim c.if-is_dropped.branch [
  | then-is_dropped+in_ok-say_one w ↦
      rw w.out-is (more_after _ _ _ c.loop-warning.invariant w.in_ok-say_one.ensures)
  | else-is_dropped w ↦ rw w.out-is c.loop-warning.invariant
]
