use Rattle.std.proofs.Common.{ap, sym, ◌∙◌}
use Rattle.kb_base.specs.HashedMap.{is_marked}
use Rattle.kb_base.proofs.HashedMapLemmas.{marks_of_inserted}
use Rattle.kb_base.proofs.hashed_map.HashedMap.set.Goals as goal

pub invariant_of-self-2 : goal.invariant_of-self-2
invariant_of-self-2 g c =
    marks_of_inserted c.self.inside.table c.set.new.self c.args.key.now c.self.inside.marks.items
    c.self.invariant c.args.value c.put_mark.new.marks.items
    (ap (is_marked c.put_mark.new.marks.items) (sym c.hash_of.ensures.value) ∙ c.put_mark.ensures.there)
    c.put_mark.ensures.kept c.in_ok-set.ensures.ok c.put_mark.ensures.room
