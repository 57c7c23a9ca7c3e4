use Rattle.std.proofs.Common.{◌≡◌, ◌+◌, ◌<◌, length}
use Rattle.kb_context.specs.Scopes.{context}
use Rattle.kb_when.specs.Flat.{accepts}
use Rattle.kb_when.proofs.flat.run_by.Given as goal

abbrev pub invariant-loop-place : goal.invariant-loop-place
invariant-loop-place l = record {
  inside : l.place < length l.jumps + 2;
  same : accepts l.jumps (context l.scopes.seen) l.place ≡ accepts l.jumps (context l.scopes.seen) l.entry;
}

abbrev pub decreases-loop-place : goal.decreases-loop-place
decreases-loop-place l = l.place
