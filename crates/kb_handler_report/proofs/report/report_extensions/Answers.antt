use Rattle.std.proofs.Common.{◌≡◌, ◌∙◌, ◌&&◌, sym, ap, subst}
use Rattle.std.specs.Prelude.{All}
use Rattle.std.proofs.lemmas.List.{take_all}
use Rattle.kb_handler_report.specs.Judgement.{AllAccepted}
use Rattle.kb_handler_report.proofs.ReportLemmas.{all_hold, one_more}
use Rattle.kb_handler_report.proofs.report.report_extensions.Goals.{then-all, else-all}
use Rattle.kb_handler_report.proofs.report.report_extensions.Goals as goal

pub loop-extension-preserved : goal.loop-extension-preserved
loop-extension-preserved g c =
    let extensions = c.args.extensions.now in
    let i = c.loop-extension.extension-index in
    let x = c.extension-item.result in
    let before = c.loop-extension.all in
    let one = c.in_ok-accepted.accepted in
    let is : c.if-all.all ≡ (before && one) = elim c.if-all.branch [
      | then-all w ↦ w.all-is ∙ sym (ap (λ b. b && one) w.if-all.true)
      | else-all w ↦ w.all-is ∙ w.if-all.false ∙ sym (ap (λ b. b && one) w.if-all.false)
    ] in
    record {
      so_far = λ e. one_more (AllAccepted extensions) extensions i x before one c.loop-extension-test.true c.extension-item.is c.loop-extension.invariant.so_far c.in_ok-accepted.ensures.all (sym is ∙ e);
      each = λ all. is ∙ all_hold (AllAccepted extensions) extensions i x before one c.loop-extension-test.true c.extension-item.is c.loop-extension.invariant.each c.in_ok-accepted.ensures.all all;
    }

pub returns-clause-all : goal.returns-clause-all
returns-clause-all g c =
    let extensions = c.args.extensions.now in (
      λ e. subst (All (AllAccepted extensions)) (take_all c.loop-extension.extension-index extensions c.loop-extension-test.false) (c.loop-extension.invariant.so_far e),
      c.loop-extension.invariant.each,
    )
