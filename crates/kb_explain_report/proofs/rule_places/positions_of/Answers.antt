use Rattle.std.proofs.Common.{inr}
use Rattle.std.proofs.lemmas.Result.{IfOk-weaker}
use Rattle.kb_explain_report.proofs.rule_places.positions_of.Goals as goal

pub returns-in-Ok : goal.returns-in-Ok
returns-in-Ok c =
    let opens = rw c.in-Ok.is at c.in_ok-source.ensures.opened in
    IfOk-weaker c.rule_positions-positions.result _ _ (λ made placed. inr (c.in-Ok.source, opens, placed))
    c.rule_positions-positions.ensures
