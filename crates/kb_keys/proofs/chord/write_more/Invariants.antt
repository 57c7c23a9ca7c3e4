use Rattle.std.proofs.Common.{take, string_bytes}
use Rattle.kb_keys.proofs.ChordReadsBack.{Writes}
use Rattle.kb_keys.proofs.chord.write_more.Given as goal

abbrev pub invariant-loop-stroke : goal.invariant-loop-stroke
invariant-loop-stroke l = Writes (string_bytes l.fn.line) (string_bytes l.line) (take l.stroke-index l.more)
