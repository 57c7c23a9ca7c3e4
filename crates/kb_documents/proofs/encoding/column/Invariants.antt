use Rattle.std.proofs.Common.{◌≡◌, ◌*◌, ◌≤◌, take}
use Rattle.kb_documents.specs.Columns as words
use Rattle.kb_documents.proofs.encoding.column.Given as goal

abbrev pub invariant-loop-byte : goal.invariant-loop-byte
invariant-loop-byte l =
    (l.sum ≤ 2 * l.byte-index) × (l.sum ≡ words.column l.encoding (take l.byte-index l.part))
