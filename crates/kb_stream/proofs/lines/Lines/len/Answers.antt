use Rattle.std.proofs.Common.{arith}
use Rattle.kb_stream.proofs.LinesLemmas.{hold}
use Rattle.kb_stream.proofs.lines.Lines.len.Goals as goal

pub returns : goal.returns
returns c = let h = hold _ _ _ c.self.invariant c.self.view_is in omega (arith, h.count)
