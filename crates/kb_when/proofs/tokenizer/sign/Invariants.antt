use Rattle.std.proofs.Common.{◌≡◌, drop, map}
use Rattle.kb_when.specs.Characters.{behind_sign}
use Rattle.kb_when.specs.Tokenizer.{signs_or, next_sign, token_of_sign, Read}
use Rattle.kb_when.proofs.tokenizer.sign.Given as goal

-- the signs that are left give the same
abbrev pub invariant-loop-sign : goal.invariant-loop-sign
invariant-loop-sign l = (other : Read)
    → signs_or (λ s. behind_sign s l.characters)
    (map (λ p. (p.0.now, token_of_sign p.1)) (drop l.sign-index l.sign-items)) other
    ≡ next_sign l.characters other
