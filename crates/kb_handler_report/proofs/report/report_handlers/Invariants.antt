use Rattle.std.proofs.Common.{take}
use Rattle.std.specs.Prelude.{All, IsTrue}
use Rattle.kb_verify.specs.Accepted.{IsAccepted}
use Rattle.kb_handler_report.proofs.report.report_handlers.Given as goal

abbrev pub invariant-loop-handler : goal.invariant-loop-handler
invariant-loop-handler g l = record {
  so_far : IsTrue l.all → All (IsAccepted l.callable) (take l.handler-index l.handlers);
  each : All (IsAccepted l.callable) l.handlers → IsTrue l.all;
}
