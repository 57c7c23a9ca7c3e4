use Rattle.std.proofs.Common.{refl, sym, ◌∙◌}
use Rattle.kb_keys.proofs.BeginsLemmas.{front}
use Rattle.kb_keys.proofs.chord.Chord.begins_with.Goals as goal

pub returns-then-has_last_of-clause-front : goal.returns-then-has_last_of-clause-front
returns-then-has_last_of-clause-front c =
    front c.args.self.now c.args.pressed.now c.starts_with.result
    (rw (← c.self.view_is, c.starts_with.ensures.value, c.as_slice.ensures) refl)

pub returns-else-has_last_of-clause-front : goal.returns-else-has_last_of-clause-front
returns-else-has_last_of-clause-front c =
    front c.args.self.now c.args.pressed.now c.has_last_of.result (c.if-has_last_of.false ∙ sym (c.has_last_of.ensures c.if-has_last_of.false))
