use Rattle.std.proofs.Common.{map}
use Rattle.kb_code.specs.Reachable.{CalleesBelow}
use Rattle.kb_verify.specs.Accepted.{AreDeclared}
use Rattle.kb_verify.proofs.Calls.{IsShallowBelow}
use Rattle.kb_verify.proofs.callees.shallow_callees.Given as goal

abbrev pub invariant-loop-place : goal.invariant-loop-place
invariant-loop-place l = record {
  called : CalleesBelow l.handler l.place (map (λ c. c.index) l.callees.items);
  declared : AreDeclared l.callable l.handler l.callees.items;
  shallow : IsShallowBelow l.callable l.handler l.place;
}
