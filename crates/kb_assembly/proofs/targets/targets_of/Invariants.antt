use Rattle.std.proofs.Common.{◌≡◌, ◌+◌, length}
use Rattle.kb_assembly.proofs.TargetLemmas.{Marked}
use Rattle.kb_assembly.proofs.targets.targets_of.Given as goal

-- the marks of what is done, beside what is left
abbrev pub invariant-loop-instr : goal.invariant-loop-instr
invariant-loop-instr l = record {
  marked : Marked l.code l.marks.items l.instr-index;
  size : length l.marks.items ≡ length l.code + 1;
}
