use Rattle.std.proofs.Common.{arith, sym}
use Rattle.kb_keyboard.proofs.RespellingLemmas.{code_begins, code_ends, with_code}
use Rattle.kb_keyboard.proofs.respelling.code_in.Goals as goal

pub overflow_sub-word : goal.overflow_sub-word
overflow_sub-word c = let k = with_code c.args.word.now (sym c.if-not-has_code.ensures) in omega (arith, k.0)

pub range-requires-clause-start_le_end : goal.range-requires-clause-start_le_end
range-requires-clause-start_le_end c =
    let k = with_code c.args.word.now (sym c.if-not-has_code.ensures) in omega (arith, k.0)

pub range-requires-clause-start_boundary : goal.range-requires-clause-start_boundary
range-requires-clause-start_boundary c = λ some. code_begins c.args.word.now c.utf8.word (sym c.if-not-has_code.ensures)

pub range-requires-clause-end_boundary : goal.range-requires-clause-end_boundary
range-requires-clause-end_boundary c = code_ends c.args.word.now (sym c.if-not-has_code.ensures)
