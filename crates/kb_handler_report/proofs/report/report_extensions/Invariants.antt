use Rattle.std.proofs.Common.{take}
use Rattle.std.specs.Prelude.{All, IsTrue}
use Rattle.kb_handler_report.specs.Judgement.{AllAccepted}
use Rattle.kb_handler_report.proofs.report.report_extensions.Given as goal

abbrev pub invariant-loop-extension : goal.invariant-loop-extension
invariant-loop-extension g l = record {
  so_far : IsTrue l.all → All (AllAccepted l.extensions) (take l.extension-index l.extensions);
  each : All (AllAccepted l.extensions) l.extensions → IsTrue l.all;
}
