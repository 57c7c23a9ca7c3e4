use Rattle.std.proofs.Common.{◌≡◌, drop}
use Rattle.kb_lookup.specs.GoingOn.{next_keys}
use Rattle.kb_lookup.proofs.going_on.next_keys.Given as goal

-- those of the rules that were walked over
abbrev pub invariant-loop-position : goal.invariant-loop-position
invariant-loop-position l = l.made.items ≡ next_keys l.fn.pressed (drop l.position l.fn.resolver)
