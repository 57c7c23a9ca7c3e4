use Rattle.std.proofs.Common.{map}
use Rattle.kb_assembly.proofs.IndexLemmas.{Indexed}
use Rattle.kb_assembly.proofs.index.index_of.Given as goal

-- the index of what is done, beside what is left
abbrev pub invariant-loop-place : goal.invariant-loop-place
invariant-loop-place g l = Indexed l.index (map g.T.Named.named l.items) l.place
