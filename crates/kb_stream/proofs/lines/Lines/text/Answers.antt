use Rattle.std.proofs.Common.{◌∙◌}
use Rattle.kb_stream.proofs.LinesLemmas.{hold}
use Rattle.kb_stream.proofs.lines.Lines.text.Goals as goal

pub returns-clause-text : goal.returns-clause-text
returns-clause-text c = c.as_slice.ensures.value ∙ (hold _ _ _ c.self.invariant c.self.view_is).text_is

pub returns-clause-utf8 : goal.returns-clause-utf8
returns-clause-utf8 c = (hold _ _ _ c.self.invariant c.self.view_is).texts
