use Rattle.std.proofs.Common.{◌≡◌, ◌+◌, drop}
use Rattle.kb_jsonc.specs.Pieces.{line_len}
use Rattle.kb_jsonc.proofs.pieces.line_len.Given as goal

abbrev pub invariant-loop-i : goal.invariant-loop-i
invariant-loop-i l = line_len (drop l.i l.bytes) + l.i ≡ line_len l.bytes
