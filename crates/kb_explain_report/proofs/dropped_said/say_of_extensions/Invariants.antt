use Rattle.kb_explain_report.specs.Said.{WritesMore}
use Rattle.kb_explain_report.proofs.dropped_said.say_of_extensions.Given as goal

abbrev pub invariant-loop-extension : goal.invariant-loop-extension
invariant-loop-extension g l = WritesMore (g.W.Write.contents l.fn.out) (g.W.Write.contents l.out)
