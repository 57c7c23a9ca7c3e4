use Rattle.std.proofs.Common.{◌≡◌, ◌++◌, string_bytes, arith, refl}
use Rattle.std.proofs.lemmas.Grind.{common_steps}
use Rattle.kb_keys.specs.Keystroke.{spelling}
use Rattle.kb_keys.specs.Chord.{spelling_after}
use Rattle.kb_keys.proofs.ChordReadsBack.{chord_spelling-cons}
use Rattle.kb_keys.proofs.chord.write_strokes.Goals as goal

pub returns-clause-spelling : goal.returns-clause-spelling
returns-clause-spelling c =
    let written : string_bytes c.write_more.new.line
    ≡ string_bytes c.args.line.now
    ++ (spelling c.in-Some.first.now ++ spelling_after c.in-Some.more.now) =
    grind (arith, common_steps) in
    rw (written, c.in-Some.ensures.cases.0, chord_spelling-cons c.in-Some.first.now c.in-Some.more.now) refl
