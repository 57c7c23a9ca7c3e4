use Rattle.std.proofs.Common.{◌≡◌, ◌++◌, IsUtf8, chars}
use Rattle.std.specs.Str.Iter.{chars_rest}
use Rattle.kb_palette.specs.Words.{words, words_from}
use Rattle.kb_palette.proofs.words.words.Given as goal

-- the words so far and those of the characters that are left are the words of the text
abbrev pub invariant-loop-c : goal.invariant-loop-c
invariant-loop-c l = record {
  text : IsUtf8 (chars_rest l.c-iterator);
  words : l.words.items ++ words_from l.word (chars (chars_rest l.c-iterator)) ≡ words l.fn.text;
}
