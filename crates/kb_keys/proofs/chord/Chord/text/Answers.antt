use Rattle.std.proofs.Common.{◌≡◌, string_bytes, arith}
use Rattle.std.proofs.lemmas.Grind.{common_steps}
use Rattle.kb_keys.specs.Chord.{chord_spelling}
use Rattle.kb_keys.proofs.ChordReadsBack.{chord_of-spelling}
use Rattle.kb_keys.proofs.chord.Chord.text.Goals as goal

pub returns-clause-reads_back : goal.returns-clause-reads_back
returns-clause-reads_back c =
    let written : string_bytes c.write_strokes.new.line ≡ chord_spelling c.args.self.now =
    grind (arith, common_steps) in
    rw (written, ← c.as_slice.ensures.strokes)
    (chord_of-spelling c.as_slice.result.now c.in_ok-write_strokes.ensures.known
    (rw (c.as_slice.ensures.strokes) c.as_slice.ensures.fits))
