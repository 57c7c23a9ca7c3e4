use Rattle.std.proofs.Common.{subst}
use Rattle.std.specs.Prelude.{◌&&◌, not}
use Rattle.kb_bindings.specs.Sources.{rules_of}
use Rattle.kb_resolve.specs.Pressed.{Step}
use Rattle.kb_explain_report.specs.PressSaid.{SaysRest}
use Rattle.kb_explain_report.specs.RulesSaid.{SaysStep, any_on, waits}
use Rattle.kb_explain_report.proofs.press_said.say_press.Goals as goal
use Rattle.kb_report.specs.Output.{WritesLine}

pub returns : goal.returns
returns g c = λ before stroke e.
    let situation = c.args.situation.now in
    let strokes = situation.strokes.now in
    let is = c.in_ok-press.ensures.does before stroke e in (
      g.W.Write.contents c.say_does.new.out,
      subst (λ (does : Step). WritesLine
          (SaysStep c.args.form (any_on strokes (rules_of situation.named.bindings.now)) strokes does)
          (g.W.Write.contents c.args.out.now) (g.W.Write.contents c.say_does.new.out)) is c.in_ok-say_does.ensures,
      subst (λ (does : Step). SaysRest (not c.args.why_it_waits && waits does) c.args.form situation.named strokes
          (g.W.Write.contents c.say_does.new.out) (g.W.Write.contents c.say_rest.new.out)) is c.in_ok-say_rest.ensures,
    )
