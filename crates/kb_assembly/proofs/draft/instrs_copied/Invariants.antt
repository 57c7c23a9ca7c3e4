use Rattle.std.proofs.Common.{◌≡◌, take}
use Rattle.kb_assembly.proofs.draft.instrs_copied.Given as goal

abbrev pub invariant-loop-instr : goal.invariant-loop-instr
invariant-loop-instr l = l.made ≡ take l.instr-index l.instrs
