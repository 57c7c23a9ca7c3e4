use Rattle.kb_explain_report.proofs.SaidLemmas.{more_after}
use Rattle.kb_explain_report.proofs.dropped_said.say_of_extensions.Goals as goal
use Rattle.kb_explain_report.proofs.dropped_said.say_of_extensions.Goals.{then-extension+in_ok-say_of_list}
use Rattle.kb_explain_report.proofs.dropped_said.say_of_extensions.Goals.{else-extension}

pub loop-extension-preserved : goal.loop-extension-preserved
loop-extension-preserved g c = elim c.if-extension.branch [
  | then-extension+in_ok-say_of_list w ↦
      rw w.out-is (more_after _ _ _ c.loop-extension.invariant w.in_ok-say_of_list.ensures)
  | else-extension w ↦ rw w.out-is c.loop-extension.invariant
]
