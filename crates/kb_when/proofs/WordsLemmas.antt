-- Lemmas on reserved words.
use Rattle.std.proofs.Common.{◌≡◌, ℕ, List, Bool, true, false, refl, sym}
use Rattle.std.specs.Prelude.{◌||◌}
use Rattle.std.specs.Str.{bytes_eq}
use Rattle.std.proofs.lemmas.Bool.{false≢true}
use Rattle.std.proofs.lemmas.Slice.Eq.{bytes_eq-Decides}
use Rattle.kb_when.specs.Words.{the_true, the_false, the_in, the_not, is_reserved}

-- words that pass the test are one
pub of_bytes : (a b : List ℕ) → bytes_eq a b ≡ true → a ≡ b
of_bytes a b h = (bytes_eq-Decides a b).0 h

-- a key is none of the reserved words
pub none_of : (w : List ℕ) → is_reserved w ≡ false
    → (bytes_eq the_true w ≡ false) × (bytes_eq the_false w ≡ false) × (bytes_eq the_in w ≡ false)
    × (bytes_eq the_not w ≡ false)
none_of w h = by (bytes_eq the_true w) (bytes_eq the_false w) (bytes_eq the_in w) (bytes_eq the_not w) h where
  by : (a b c d : Bool) → (a || b) || (c || d) ≡ false → (a ≡ false) × (b ≡ false) × (c ≡ false) × (d ≡ false)
  by false false false false h = (refl, refl, refl, refl)
  by true b c d h = absurd (false≢true (sym h))
  by false true c d h = absurd (false≢true (sym h))
  by false false true d h = absurd (false≢true (sym h))
  by false false false true h = absurd (false≢true (sym h))
