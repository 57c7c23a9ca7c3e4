use Rattle.kb_explain_report.specs.Said.{WritesMore}
use Rattle.kb_explain_report.proofs.dropped_said.say_of_source.Given as goal

abbrev pub invariant-loop-warning : goal.invariant-loop-warning
invariant-loop-warning g l = WritesMore (g.W.Write.contents l.fn.out) (g.W.Write.contents l.out)
