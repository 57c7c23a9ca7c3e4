use Rattle.std.proofs.Common.{◌≡◌, drop}
use Rattle.kb_assembly.specs.Head.{no_head, heads_from}
use Rattle.kb_assembly.proofs.head.read_head.Given as goal

-- what is left gives the same
abbrev pub invariant-loop-line : goal.invariant-loop-line
invariant-loop-line l = heads_from 0 no_head l.lines ≡ heads_from l.line l.head (drop l.line l.lines)
