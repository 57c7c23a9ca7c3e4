use Rattle.std.proofs.Common.{◌<◌, length}
use Rattle.kb_context.specs.Scopes.{seat_from}
use Rattle.kb_context.proofs.SeatLemmas.{SeatGoesOn}
use Rattle.kb_context.proofs.scope_tree.find_seat.Given as goal

abbrev pub invariant-loop-scope : goal.invariant-loop-scope
invariant-loop-scope l = record {
  inside : l.at < length l.scopes;
  search : SeatGoesOn l.scopes l.key (seat_from l.scopes (length l.scopes) l.from l.key) l.at;
}

-- each parent stands before its scope
abbrev pub decreases-loop-scope : goal.decreases-loop-scope
decreases-loop-scope l = l.at
