use Rattle.std.proofs.Common.{arith}
use Rattle.kb_base.proofs.HashedMapLemmas.{marks_of_none}
use Rattle.kb_base.proofs.hashed_map.HashedMap.new.Goals as goal

pub invariant_of-result : goal.invariant_of-result
invariant_of-result g c =
    marks_of_none c.new.result c.in_ok-vec.field-0.items c.new.ensures (omega (arith, c.in_ok-vec.ensures.len))
