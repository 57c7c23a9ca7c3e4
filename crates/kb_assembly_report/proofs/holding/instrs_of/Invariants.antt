use Rattle.std.proofs.Common.{◌≡◌, take}
use Rattle.kb_assembly_report.proofs.holding.instrs_of.Given as goal

abbrev pub invariant-loop-instr : goal.invariant-loop-instr
invariant-loop-instr l = l.made ≡ take l.instr-index l.instrs
