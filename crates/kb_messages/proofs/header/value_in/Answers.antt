use Rattle.std.proofs.Common.{arith, sym}
use Rattle.kb_messages.proofs.HeaderLemmas.{value_found, value_not_here}
use Rattle.kb_messages.proofs.header.value_in.Goals as goal

pub returns-then-name_begins : goal.returns-then-name_begins
returns-then-name_begins c =
    value_found _ _ c.loop-left-test.true c.loop-left.invariant.0 c.loop-left.invariant.1 (sym c.if-name_begins.ensures)

pub loop-left-preserved : goal.loop-left-preserved
loop-left-preserved c = (
  omega arith,
  value_not_here _ _ c.loop-left-test.true c.loop-left.invariant.0 c.loop-left.invariant.1
      (sym c.if-name_begins.ensures),
)
