use Rattle.std.proofs.Common.{◌≡◌, [], drop}
use Rattle.kb_code.specs.Blocks.{bad_block}
use Rattle.kb_code.proofs.blocks.bad_block.Given as goal

-- what is left has the first bad place
abbrev pub invariant-loop-place : goal.invariant-loop-place
invariant-loop-place l = bad_block 0 [] l.instrs ≡ bad_block l.place l.nest (drop l.place l.instrs)
