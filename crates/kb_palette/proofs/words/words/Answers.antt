use Rattle.std.proofs.Common.{sym, ◌∙◌, chars}
use Rattle.std.specs.Str.Iter.{chars_rest}
use Rattle.std.proofs.lemmas.Str.{IsUtf8-past_char, chars_past_char}
use Rattle.kb_palette.specs.Words.{words}
use Rattle.kb_palette.proofs.WordsLemmas.{white-step, other-step, chars-empty}
use Rattle.kb_palette.proofs.words.words.Goals as goal

pub loop-c-preserved-then-not-is_whitespace : goal.loop-c-preserved-then-not-is_whitespace
loop-c-preserved-then-not-is_whitespace c =
    let held = c.loop-c.invariant in
    let parts = c.in-Some.ensures.steps.0 in
    let other = sym c.is_whitespace.ensures ∙ c.if-not-is_whitespace.true in
    let whole = rw (chars_past_char _ _ c.in-Some.c held.text parts) at held.words in
    record {
      text = IsUtf8-past_char _ _ c.in-Some.c held.text parts;
      words = other-step c.loop-c.words.items c.loop-c.word c.push.new.self
          (chars (chars_rest c.next.new.self)) c.in-Some.c (words c.args.text.now) c.in_ok-push.ensures.ok
          other whole;
    }

pub loop-c-preserved : goal.loop-c-preserved
loop-c-preserved c =
    let held = c.loop-c.invariant in
    let parts = c.in-Some.ensures.steps.0 in
    let white = sym c.is_whitespace.ensures ∙ c.if-not-is_whitespace.false in
    let whole = rw (chars_past_char _ _ c.in-Some.c held.text parts) at held.words in
    record {
      text = IsUtf8-past_char _ _ c.in-Some.c held.text parts;
      words = white-step c.loop-c.words.items c.close.new.words.items c.loop-c.word c.replace-ended.result
          c.replace-ended.new.dest (chars (chars_rest c.next.new.self)) c.in-Some.c (words c.args.text.now)
          c.in_ok-close.ensures c.replace-ended.ensures.value
          (c.replace-ended.ensures.after ∙ c.new.ensures) white whole;
    }

pub returns : goal.returns
returns c =
    let held = c.loop-c.invariant in
    let none = chars-empty (chars_rest c.loop-c.c-iterator) c.in-None.ensures.steps.0.0 in
    c.in_ok-close-2.ensures ∙ (rw none at held.words)
