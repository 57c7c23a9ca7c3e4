use Rattle.std.proofs.Common.{◌≡◌, drop}
use Rattle.kb_code.specs.Face.{are_distinct}
use Rattle.kb_code.proofs.face.are_distinct.Given as goal

abbrev pub invariant-loop-place : goal.invariant-loop-place
invariant-loop-place l = are_distinct (drop l.place l.handlers) ≡ are_distinct l.handlers
