use Rattle.kb_explain_report.proofs.press_said.say_reasons.Goals as goal

pub returns : goal.returns
returns g c = (
  g.W.Write.contents c.say_explained.new.out,
  g.W.Write.contents c.say_removed.new.out,
  g.W.Write.contents c.say_disabled.new.out,
  c.in_ok-say_explained.ensures,
  c.in_ok-say_removed.ensures,
  c.in_ok-say_disabled.ensures,
  c.in_ok-say_dropped.ensures,
)
