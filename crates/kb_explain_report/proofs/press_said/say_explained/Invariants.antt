use Rattle.kb_explain_report.specs.Said.{WritesMore}
use Rattle.kb_explain_report.proofs.press_said.say_explained.Given as goal

abbrev pub invariant-loop-passed : goal.invariant-loop-passed
invariant-loop-passed g l = WritesMore (g.W.Write.contents l.fn.out) (g.W.Write.contents l.out)
