use Rattle.std.proofs.Common.{◌≡◌, ◌++◌, drop, take}
use Rattle.kb_when.specs.Characters.{ends_at, front, behind}
use Rattle.kb_when.proofs.characters.split_run.Given as goal

-- the characters so far and those of what is left give the whole
abbrev pub invariant-loop-i : goal.invariant-loop-i
invariant-loop-i l = record {
  front : take l.i l.characters ++ front (ends_at l.until) (drop l.i l.characters)
      ≡ front (ends_at l.until) l.characters;
  rest : behind (ends_at l.until) (drop l.i l.characters) ≡ behind (ends_at l.until) l.characters;
}
