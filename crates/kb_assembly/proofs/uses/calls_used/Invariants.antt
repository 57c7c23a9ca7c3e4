use Rattle.std.proofs.Common.{◌≡◌, drop}
use Rattle.kb_assembly.specs.Uses.{call_used, grown}
use Rattle.kb_assembly.proofs.uses.calls_used.Given as goal

-- what is left gives the same
abbrev pub invariant-loop-words : goal.invariant-loop-words
invariant-loop-words l = grown call_used l.fn.calls l.lines ≡ grown call_used l.table (drop l.words-index l.lines)
