use Rattle.kb_bindings.specs.Sources.{enablement, rules_of}
use Rattle.kb_context.specs.Scopes.{context}
use Rattle.kb_explain_report.proofs.PressLemmas.{press_steps}
use Rattle.kb_explain_report.proofs.press_said.explained_press.Goals as goal

pub returns-clause-does : goal.returns-clause-does
returns-clause-does c before stroke are =
    let situation = c.args.situation.now in
    let sources = situation.named.bindings.now in
    press_steps before stroke situation.strokes.now (context situation.scopes.now.seen) (enablement sources)
    (rules_of sources) _ _ are (c.pressed_by-does.ensures before stroke are) c.in_ok-explained.ensures.taken
