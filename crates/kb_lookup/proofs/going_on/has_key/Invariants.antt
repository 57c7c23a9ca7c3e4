use Rattle.std.proofs.Common.{◌≡◌, drop}
use Rattle.kb_lookup.specs.GoingOn.{has_key}
use Rattle.kb_lookup.proofs.going_on.has_key.Given as goal

-- those that are left give the same
abbrev pub invariant-loop-other : goal.invariant-loop-other
invariant-loop-other l = has_key (drop l.other-index l.made) l.key ≡ has_key l.fn.made l.key
