use Rattle.std.proofs.Common.{arith}
use Rattle.kb_base.proofs.HashedMapLemmas.{marks_of_none}
use Rattle.kb_base.proofs.hashed_map.HashedMap.clear.Goals as goal

pub invariant_of-self : goal.invariant_of-self
invariant_of-self g c =
    marks_of_none c.clear.new.self c.fill.new.self.items c.clear.ensures (omega (arith, c.fill.ensures.len, c.self.invariant.room))
