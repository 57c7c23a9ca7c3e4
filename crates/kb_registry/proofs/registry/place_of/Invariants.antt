use Rattle.kb_registry.specs.Place.{NoneBelow}
use Rattle.kb_registry.proofs.registry.place_of.Given as goal

abbrev pub invariant-loop-place : goal.invariant-loop-place
invariant-loop-place g l = NoneBelow (λ e. e.ticket) l.table.entries l.ticket l.place
