use Rattle.std.proofs.Common.{◌≡◌, ◌≤◌}
use Rattle.kb_documents.specs.Columns as words
use Rattle.kb_documents.proofs.encoding.back.Given as goal

abbrev pub invariant-loop-at : goal.invariant-loop-at
invariant-loop-at l = (l.at ≤ l.index) × (words.back l.line l.index ≡ words.back l.line l.at)

abbrev pub decreases-loop-at : goal.decreases-loop-at
decreases-loop-at l = l.at
