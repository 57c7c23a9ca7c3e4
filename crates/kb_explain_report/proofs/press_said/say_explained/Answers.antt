use Rattle.kb_explain_report.proofs.SaidLemmas.{more_after}
use Rattle.kb_explain_report.proofs.press_said.say_explained.Goals as goal

pub loop-passed-preserved : goal.loop-passed-preserved
loop-passed-preserved g c = more_after _ _ _ c.loop-passed.invariant c.in_ok-say_passed.ensures

pub returns-in_ok-say_taken : goal.returns-in_ok-say_taken
returns-in_ok-say_taken g c = more_after _ _ _ c.loop-passed.invariant c.in_ok-say_taken.ensures
