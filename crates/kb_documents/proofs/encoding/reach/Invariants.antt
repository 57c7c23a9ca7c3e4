use Rattle.std.proofs.Common.{◌≡◌, ◌+◌, drop}
use Rattle.kb_documents.specs.Columns as words
use Rattle.kb_documents.proofs.encoding.reach.Given as goal

abbrev pub invariant-loop-index : goal.invariant-loop-index
invariant-loop-index l =
    words.reach l.encoding l.line l.character ≡ l.index + words.reach l.encoding (drop l.index l.line) l.left
