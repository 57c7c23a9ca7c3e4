use Rattle.std.proofs.Common.{◌≡◌, ◌++◌, length}
use Rattle.kb_base.specs.Reading.{seen}
use Rattle.kb_code.specs.Coding.{code_from}
use Rattle.kb_code.proofs.coding.code_from.Given as goal

-- what is read so far, and then what is left, is the whole
abbrev pub invariant-loop-left : goal.invariant-loop-left
invariant-loop-left l = code_from l.fn.version 0 l.fn.bytes ≡ seen (λ more. l.code.items ++ more) (code_from l.fn.version (length
    l.code.items) l.left)

abbrev pub decreases-loop-left : goal.decreases-loop-left
decreases-loop-left l = length l.left
