use Rattle.std.proofs.Common.{◌≡◌, ◌++◌, length}
use Rattle.kb_assembly_report.specs.Judging.{all_like}
use Rattle.kb_assembly_report.proofs.judging.all_like.Given as goal

-- those so far, and those of what is left
abbrev pub invariant-loop-left : goal.invariant-loop-left
invariant-loop-left l = l.drafts ++ all_like l.left l.read ≡ all_like l.given l.handlers

abbrev pub decreases-loop-left : goal.decreases-loop-left
decreases-loop-left l = length l.left
