use Rattle.std.proofs.Common.{◌↔◌, subst}
use Rattle.std.specs.Prelude.{All, IfOk, IsTrue}
use Rattle.kb_verify.specs.Accepted.{IsAccepted}
use Rattle.kb_handler_report.specs.Callable.{callable_of}
use Rattle.kb_handler_report.proofs.report.report_extension.Goals as goal

pub returns-clause-all : goal.returns-clause-all
returns-clause-all g c =
    let commands = callable_of c.args.extensions.now c.args.own.now in
    let answer = c.report_handlers.result in
    subst (λ hs. IfOk answer (λ all. IsTrue all ↔ All (IsAccepted commands) hs)) c.handlers_of.ensures
    (subst (λ those. IfOk answer (λ all. IsTrue all ↔ All (IsAccepted those) c.handlers_of.result.now)) c.in_ok-callable.ensures c.report_handlers.ensures.all)
