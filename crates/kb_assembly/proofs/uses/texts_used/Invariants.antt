use Rattle.std.proofs.Common.{◌≡◌, drop}
use Rattle.kb_assembly.specs.Uses.{text_used, grown}
use Rattle.kb_assembly.proofs.uses.texts_used.Given as goal

-- what is left gives the same
abbrev pub invariant-loop-words : goal.invariant-loop-words
invariant-loop-words l = grown text_used l.fn.texts l.lines ≡ grown text_used l.table (drop l.words-index l.lines)
