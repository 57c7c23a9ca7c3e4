use Rattle.std.proofs.Common.{length}
use Rattle.kb_assembly_report.specs.Judging.{AreSettled}
use Rattle.kb_assembly_report.proofs.judging.are_settled.Given as goal

-- those that are left decide
abbrev pub invariant-loop-left : goal.invariant-loop-left
invariant-loop-left l = record {
  right : AreSettled l.callable l.left l.read → AreSettled l.callable l.given l.handlers;
  all : AreSettled l.callable l.given l.handlers → AreSettled l.callable l.left l.read;
}

abbrev pub decreases-loop-left : goal.decreases-loop-left
decreases-loop-left l = length l.left
