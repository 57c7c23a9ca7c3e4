use Rattle.std.proofs.lemmas.Slice.Eq.{slice_eq-Decides}
use Rattle.kb_keys.proofs.KeystrokeLemmas.{same_stroke-Decides}
use Rattle.kb_keys.proofs.chord.Chord.same_keys.Goals as goal

pub returns-clause-meaning : goal.returns-clause-meaning
returns-clause-meaning c = slice_eq-Decides same_stroke-Decides _ _ _ c.eq.ensures
