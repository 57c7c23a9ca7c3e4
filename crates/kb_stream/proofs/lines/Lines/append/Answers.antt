use Rattle.std.proofs.Common.{sym}
use Rattle.kb_stream.proofs.LinesLemmas.{next_added}
use Rattle.kb_stream.proofs.lines.Lines.append.Goals as goal

pub loop-place-preserved : goal.loop-place-preserved
loop-place-preserved c = (
  next_added _ _ _ _ _ _ c.loop-place.invariant.0 (rw c.unwrap-line.ensures at (sym c.get.ensures))
      c.in-Ok.ensures.ok,
  c.loop-place.invariant.1,
)
