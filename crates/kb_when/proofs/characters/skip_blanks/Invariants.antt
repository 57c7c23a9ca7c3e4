use Rattle.std.proofs.Common.{◌≡◌, drop}
use Rattle.kb_when.specs.Characters.{skipped}
use Rattle.kb_when.proofs.characters.skip_blanks.Given as goal

abbrev pub invariant-loop-i : goal.invariant-loop-i
invariant-loop-i l = skipped (drop l.i l.characters) ≡ skipped l.characters
