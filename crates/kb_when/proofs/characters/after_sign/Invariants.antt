use Rattle.std.proofs.Common.{◌≡◌, ◌+◌, drop, length}
use Rattle.kb_when.specs.Characters.{behind_sign}
use Rattle.kb_when.proofs.characters.after_sign.Given as goal

abbrev pub invariant-loop-expected : goal.invariant-loop-expected
invariant-loop-expected l = record {
  value : behind_sign (drop l.expected-index l.sign) l.rest ≡ behind_sign l.sign l.characters;
  len : length l.rest + l.expected-index ≡ length l.characters;
}
