use Rattle.std.proofs.Common.{◌≡◌}
use Rattle.kb_documents.specs.Lines.{starts_below}
use Rattle.kb_documents.proofs.lines.line_starts.Given as goal

-- the beginnings below the index
abbrev pub invariant-loop-index : goal.invariant-loop-index
invariant-loop-index l = l.made.items ≡ starts_below l.text l.index
