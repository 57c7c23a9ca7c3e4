use Rattle.std.proofs.Common.{◌<◌, length}
use Rattle.kb_context.specs.Scopes.{seat_from}
use Rattle.kb_context.proofs.SeatLemmas.{MarksOn}
use Rattle.kb_context.proofs.scope_tree.mark.Given as goal

abbrev pub invariant-loop-parent : goal.invariant-loop-parent
invariant-loop-parent l = record {
  inside : l.at < length l.scopes;
  marks : MarksOn l.scopes (seat_from l.scopes (length l.scopes) l.from) l.flat l.at;
}

-- each parent stands before its scope
abbrev pub decreases-loop-parent : goal.decreases-loop-parent
decreases-loop-parent l = l.at
