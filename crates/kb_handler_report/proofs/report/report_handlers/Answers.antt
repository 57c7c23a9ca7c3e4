use Rattle.std.proofs.Common.{◌≡◌, ◌∙◌, ◌&&◌, sym, ap, subst}
use Rattle.std.specs.Prelude.{All}
use Rattle.std.proofs.lemmas.List.{take_all}
use Rattle.kb_verify.specs.Accepted.{IsAccepted}
use Rattle.kb_handler_report.proofs.ReportLemmas.{all_hold, one_more}
use Rattle.kb_handler_report.proofs.report.report_handlers.Goals.{then-all, else-all}
use Rattle.kb_handler_report.proofs.report.report_handlers.Goals as goal

pub loop-handler-preserved : goal.loop-handler-preserved
loop-handler-preserved g c =
    let commands = c.args.callable.now in
    let handlers = c.args.handlers.now in
    let i = c.loop-handler.handler-index in
    let x = c.handler-item.result in
    let before = c.loop-handler.all in
    let one = c.in_ok-accepted.accepted in
    let is : c.if-all.all ≡ (before && one) = elim c.if-all.branch [
      | then-all w ↦ w.all-is ∙ sym (ap (λ b. b && one) w.if-all.true)
      | else-all w ↦ w.all-is ∙ w.if-all.false ∙ sym (ap (λ b. b && one) w.if-all.false)
    ] in
    record {
      so_far = λ e. one_more (IsAccepted commands) handlers i x before one c.loop-handler-test.true c.handler-item.is c.loop-handler.invariant.so_far c.in_ok-accepted.ensures.accepted (sym is ∙ e);
      each = λ all. is ∙ all_hold (IsAccepted commands) handlers i x before one c.loop-handler-test.true c.handler-item.is c.loop-handler.invariant.each c.in_ok-accepted.ensures.accepted all;
    }

pub returns-clause-all : goal.returns-clause-all
returns-clause-all g c =
    let handlers = c.args.handlers.now in (
      λ e. subst (All (IsAccepted c.args.callable.now)) (take_all c.loop-handler.handler-index handlers c.loop-handler-test.false) (c.loop-handler.invariant.so_far e),
      c.loop-handler.invariant.each,
    )
