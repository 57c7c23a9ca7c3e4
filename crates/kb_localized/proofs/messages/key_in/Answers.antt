use Rattle.std.proofs.Common.{arith, sym}
use Rattle.kb_localized.proofs.KeyLemmas.{key_begins, key_ends, with_key}
use Rattle.kb_localized.proofs.messages.key_in.Goals as goal

pub overflow_sub-text : goal.overflow_sub-text
overflow_sub-text c = let k = with_key c.args.text.now (sym c.if-not-has_key.ensures) in omega (arith, k.0)

pub range-requires-clause-start_le_end : goal.range-requires-clause-start_le_end
range-requires-clause-start_le_end c =
    let k = with_key c.args.text.now (sym c.if-not-has_key.ensures) in omega (arith, k.0)

pub range-requires-clause-start_boundary : goal.range-requires-clause-start_boundary
range-requires-clause-start_boundary c = λ some. key_begins c.args.text.now c.utf8.text (sym c.if-not-has_key.ensures)

pub range-requires-clause-end_boundary : goal.range-requires-clause-end_boundary
range-requires-clause-end_boundary c = key_ends c.args.text.now (sym c.if-not-has_key.ensures)
