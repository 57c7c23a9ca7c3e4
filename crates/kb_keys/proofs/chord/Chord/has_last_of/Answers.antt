use Rattle.std.proofs.Common.{◌-◌, length, sym, ◌∙◌, arith}
use Rattle.kb_keys.proofs.BeginsLemmas.{apart}
use Rattle.kb_keys.proofs.chord.Chord.has_last_of.Goals as goal

pub returns : goal.returns
returns c different =
    apart c.args.self.now c.as_slice-strokes.result.now c.args.pressed.now (length c.args.pressed.now - 1)
    c.index-strokes-place.result c.index-pressed-place.result (omega arith) (c.as_slice-strokes.ensures ∙ c.self.view_is)
    c.index-strokes-place.is c.index-pressed-place.is (sym c.eq.ensures ∙ different)
