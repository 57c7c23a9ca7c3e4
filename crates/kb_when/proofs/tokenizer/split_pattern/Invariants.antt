use Rattle.std.proofs.Common.{◌≡◌, ◌++◌, drop, take, false}
use Rattle.kb_when.specs.Tokenizer.{up_to_close, from_close}
use Rattle.kb_when.proofs.tokenizer.split_pattern.Given as goal

-- the characters so far and those of what is left give the whole
abbrev pub invariant-loop-i : goal.invariant-loop-i
invariant-loop-i l = record {
  front : take l.i l.characters ++ up_to_close l.escaped l.in_class (drop l.i l.characters)
      ≡ up_to_close false false l.characters;
  rest : from_close l.escaped l.in_class (drop l.i l.characters) ≡ from_close false false l.characters;
}
