use Rattle.std.proofs.Common.{◌≡◌, drop, map}
use Rattle.kb_when.specs.declared.token.Token.TheVariants.{Comparison}
use Rattle.kb_when.specs.Characters.{behind_sign}
use Rattle.kb_when.specs.Tokenizer.{signs_or, blank_around, next_comparison, Read}
use Rattle.kb_when.proofs.tokenizer.comparison.Given as goal

-- the signs that are left give the same
abbrev pub invariant-loop-sign : goal.invariant-loop-sign
invariant-loop-sign l = (other : Read)
    → signs_or (λ s. blank_around l.spaced (behind_sign s l.characters))
    (map (λ p. (p.0.now, Comparison p.1)) (drop l.sign-index l.sign-items)) other
    ≡ next_comparison l.spaced l.characters other
