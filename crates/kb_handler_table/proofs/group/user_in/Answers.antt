use Rattle.std.proofs.Common.{◌≡◌, ◌∙◌, ap, sym, get_or}
use Rattle.kb_handler_table.proofs.GroupLemmas.{user_met, user_passed}
use Rattle.kb_handler_table.proofs.group.user_in.Goals as goal

pub returns-then-calls_one : goal.returns-then-calls_one
returns-then-calls_one c =
    let cs = c.as_slice.result.now in
    let its : cs ≡ get_or c.args.callees.now c.loop-place.place cs =
    c.as_slice.ensures ∙ c.index-callees-place.is
    ∙ ap (λ d. get_or c.args.callees.now c.loop-place.place d) (sym c.as_slice.ensures) in
    user_met c.args.own.now.codes.handlers c.args.handlers.now c.args.callees.now c.loop-place.place
    c.index-handlers-place.result cs c.requires c.loop-place-test.true c.index-handlers-place.is its
    (sym c.if-calls_one.true ∙ c.calls_one.ensures) ∙ c.loop-place.invariant

pub loop-place-preserved : goal.loop-place-preserved
loop-place-preserved c =
    let cs = c.as_slice.result.now in
    let its : cs ≡ get_or c.args.callees.now c.loop-place.place cs =
    c.as_slice.ensures ∙ c.index-callees-place.is
    ∙ ap (λ d. get_or c.args.callees.now c.loop-place.place d) (sym c.as_slice.ensures) in
    user_passed c.args.own.now.codes.handlers c.args.handlers.now c.args.callees.now c.loop-place.place
    c.index-handlers-place.result cs c.requires c.loop-place-test.true c.index-handlers-place.is its
    (sym c.if-calls_one.false ∙ c.calls_one.ensures) ∙ c.loop-place.invariant
