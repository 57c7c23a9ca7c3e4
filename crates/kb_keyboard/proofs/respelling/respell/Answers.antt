use Rattle.std.proofs.Common.{◌∙◌, ◌++◌, ◌<◌, ℕ, List, [], ap, arith, false, length, sym}
use Rattle.kb_keyboard.specs.Respelling.{respelled_from}
use Rattle.kb_keyboard.proofs.RespellingLemmas.{past_byte, past_word, word_begins}
use Rattle.kb_keyboard.proofs.respelling.respell.Goals as goal

pub loop-at-init : goal.loop-at-init
loop-at-init c = record {
  made = ap (λ (bs : List ℕ). bs ++ respelled_from c.args.layout.now false [] c.args.text.now) c.new-made.ensures;
  begins = λ some. absurd (omega arith);
  before = omega arith;
}

pub loop-at-preserved-then-not-is_separator : goal.loop-at-preserved-then-not-is_separator
loop-at-preserved-then-not-is_separator c =
    let within : c.loop-at.at < length c.args.text.now = omega arith in
    record {
      made =
          ap (λ (bs : List ℕ). c.loop-at.made ++ bs)
          (past_byte c.args.layout.now c.args.text.now c.loop-at.shifted c.loop-at.begin c.loop-at.at
          c.byte_at-byte.result c.loop-at.invariant.before within c.byte_at-byte.ensures
          (sym c.if-not-is_separator.ensures))
          ∙ c.loop-at.invariant.made;
      begins = c.loop-at.invariant.begins;
      before = omega arith;
    }

pub range-requires-clause-end_boundary : goal.range-requires-clause-end_boundary
range-requires-clause-end_boundary c =
    let within : c.loop-at.at < length c.args.text.now = omega arith in
    word_begins c.args.text.now c.loop-at.at c.byte_at-byte.result c.utf8.text within c.byte_at-byte.ensures
    (sym c.if-not-is_separator.ensures)

pub loop-at-preserved : goal.loop-at-preserved
loop-at-preserved c =
    let within : c.loop-at.at < length c.args.text.now = omega arith in
    record {
      made =
          past_word c.args.layout.now c.args.text.now c.loop-at.shifted c.shifted_behind-shifted.result
          c.loop-at.begin c.loop-at.at c.byte_at-byte.result c.loop-at.made c.push_both.new.made
          c.range-word.result.now c.new_word.result.now c.range.result.now c.loop-at.invariant.before within
          c.byte_at-byte.ensures (sym c.if-not-is_separator.ensures) c.range-word.ensures.value
          c.range.ensures.value c.new_word.ensures c.shifted_behind-shifted.ensures c.in_ok-push_both.ensures
          ∙ c.loop-at.invariant.made;
      begins = λ some. word_begins c.args.text.now c.loop-at.at c.byte_at-byte.result c.utf8.text within
          c.byte_at-byte.ensures (sym c.if-not-is_separator.ensures);
      before = omega arith;
    }
