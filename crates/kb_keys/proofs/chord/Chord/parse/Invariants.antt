use Rattle.std.proofs.Common.{length}
use Rattle.kb_keys.proofs.ChordLemmas.{ReadsChord}
use Rattle.kb_keys.proofs.chord.Chord.parse.Given as goal

abbrev pub invariant-loop-rest : goal.invariant-loop-rest
invariant-loop-rest l = ReadsChord l.fn.text l.chord l.rest

abbrev pub decreases-loop-rest : goal.decreases-loop-rest
decreases-loop-rest l = length l.rest
