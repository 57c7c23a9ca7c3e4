use Rattle.std.proofs.Common.{◌≡◌, drop}
use Rattle.kb_code.specs.Code.{first_fault}
use Rattle.kb_code.proofs.code.first_fault.Given as goal

-- what is left has the first fault
abbrev pub invariant-loop-place : goal.invariant-loop-place
invariant-loop-place l =
    first_fault l.version 0 l.instrs ≡ first_fault l.version l.place (drop l.place l.instrs)
