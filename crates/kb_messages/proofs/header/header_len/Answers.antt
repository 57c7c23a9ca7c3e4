use Rattle.std.proofs.Common.{arith, sym}
use Rattle.kb_messages.proofs.HeaderLemmas.{header_goes_on}
use Rattle.kb_messages.proofs.header.header_len.Goals as goal

pub loop-at-preserved : goal.loop-at-preserved
loop-at-preserved c = (
  omega arith,
  header_goes_on _ _ c.loop-at-test.true c.loop-at.invariant.1 (sym c.if-not-ends_header.ensures),
)
