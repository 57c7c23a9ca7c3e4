use Rattle.std.proofs.Common.{arith}
use Rattle.kb_assembly_report.proofs.JudgingLemmas.{all_made, none_given, none_read}
use Rattle.kb_assembly_report.proofs.judging.all_like.Goals as goal
use Rattle.kb_assembly_report.proofs.judging.all_like.Goals.{in_default, in_default-2}

pub returns : goal.returns
returns c = all_made _ _ _ c.loop-left.invariant (elim c.if-left-lt1.branch [
  | in_default w ↦ none_given _ _ (omega arith)
  | in_default-2 w ↦ none_read _ _ (grind (arith, w.in_default))
])
