use Rattle.std.proofs.Common.{length, ◌-◌, ◌≡◌, ◌+◌, ◌≤◌}
use Rattle.kb_jsonc.specs.Pieces.{string_len}
use Rattle.kb_jsonc.proofs.PiecesLemmas.{string_from}
use Rattle.kb_jsonc.proofs.pieces.string_len.Given as goal

abbrev pub invariant-loop-at : goal.invariant-loop-at
invariant-loop-at l = (string_from l.bytes l.at ≡ string_len l.bytes) × (l.at ≤ length l.bytes + 1)

abbrev pub decreases-loop-at : goal.decreases-loop-at
decreases-loop-at l = length l.bytes - l.at
