use Rattle.std.proofs.Common.{◌≡◌, length}
use Rattle.kb_verify.specs.Marks.{IsMarked}
use Rattle.kb_verify.proofs.forward.assign.Given as goal

abbrev pub invariant-loop-place : goal.invariant-loop-place
invariant-loop-place l = record { size : length l.marks.items ≡ length l.handler.code; marked : IsMarked l.callable l.handler l.place l.marks.items }
