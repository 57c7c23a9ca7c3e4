use Rattle.std.proofs.Common.{◌≡◌, ◌++◌}
use Rattle.std.specs.Vec.Iter.{into_iter_items}
use Rattle.kb_assembly.proofs.write.push_all.Given as goal

-- the lines so far, and those that are left
abbrev pub invariant-loop-words : goal.invariant-loop-words
invariant-loop-words l = l.lines ++ into_iter_items l.words-iterator ≡ l.fn.lines ++ l.fn.more
