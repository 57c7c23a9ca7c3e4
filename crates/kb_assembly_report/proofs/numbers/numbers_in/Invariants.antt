use Rattle.std.proofs.Common.{◌≡◌, ◌++◌, length}
use Rattle.kb_assembly_report.specs.Numbers.{numbers_from, numbers_in}
use Rattle.kb_assembly_report.proofs.numbers.numbers_in.Given as goal

-- the numbers so far, and those of what is left
abbrev pub invariant-loop-left : goal.invariant-loop-left
invariant-loop-left l = l.numbers ++ numbers_from l.number l.left ≡ numbers_in l.section

abbrev pub decreases-loop-left : goal.decreases-loop-left
decreases-loop-left l = length l.left
