use Rattle.std.proofs.Common.{length, ◌-◌, ◌≡◌, ◌≤◌}
use Rattle.kb_jsonc.specs.Pieces.{block_len}
use Rattle.kb_jsonc.proofs.PiecesLemmas.{block_from}
use Rattle.kb_jsonc.proofs.pieces.block_len.Given as goal

abbrev pub invariant-loop-at : goal.invariant-loop-at
invariant-loop-at l = (block_from l.bytes (l.at - 1) ≡ block_len l.bytes) × (1 ≤ l.at)

abbrev pub decreases-loop-at : goal.decreases-loop-at
decreases-loop-at l = length l.bytes - l.at
