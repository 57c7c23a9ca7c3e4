use Rattle.kb_base.proofs.HashedMapLemmas.{marks_of_removed}
use Rattle.kb_base.proofs.hashed_map.HashedMap.remove.Goals as goal

pub invariant_of-self : goal.invariant_of-self
invariant_of-self g c =
    marks_of_removed c.self.inside.table c.remove.new.self c.args.key.now c.self.inside.marks.items
    c.self.invariant c.remove.ensures
