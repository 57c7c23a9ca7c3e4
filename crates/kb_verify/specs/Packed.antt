-- Kinds in two words: each kind has one bit in each word, and the topmost kind has the lowest bits.
use Rattle.std.specs.Prelude.{◌≡◌, ◌<◌, ℕ, zero, suc, ◌+◌, ◌*◌, ◌/◌, ◌%◌, ◌^◌, List, [], ◌∷◌, length}
use Rattle.std.proofs.Common.{refl, ap, arith}
use Rattle.kb_core.specs.declared.arg.Kind.{Kind}
use Rattle.kb_core.specs.declared.arg.Kind.TheVariants as kind

-- the bits of a kind
abbrev pub low_bit : Kind → ℕ
low_bit kind.Text = 0
low_bit kind.Number = 1
low_bit kind.Truth = 0
low_bit kind.Any = 1

abbrev pub high_bit : Kind → ℕ
high_bit kind.Text = 0
high_bit kind.Number = 0
high_bit kind.Truth = 1
high_bit kind.Any = 1

-- the kind with these two bits
abbrev pub kind_of : ℕ → ℕ → Kind
kind_of zero zero = kind.Text
kind_of (suc _) zero = kind.Number
kind_of zero (suc _) = kind.Truth
kind_of (suc _) (suc _) = kind.Any

-- the kinds that two words hold
abbrev pub kinds_in : ℕ → ℕ → ℕ → List Kind
kinds_in zero low high = []
kinds_in (suc height) low high = kind_of (low % 2) (high % 2) ∷ kinds_in height (low / 2) (high / 2)

-- the words that hold some kinds
abbrev pub low_word : List Kind → ℕ
low_word [] = 0
low_word (k ∷ ks) = 2 * low_word ks + low_bit k

abbrev pub high_word : List Kind → ℕ
high_word [] = 0
high_word (k ∷ ks) = 2 * high_word ks + high_bit k

-- packing inverts unpacking: the number of kinds, and both words
pub counted : (h l g : ℕ) → length (kinds_in h l g) ≡ h
counted zero l g = refl
counted (suc h) l g = ap suc (counted h (l / 2) (g / 2))

low_of : (a b : ℕ) → a < 2 → low_bit (kind_of a b) ≡ a
low_of zero zero lt = refl
low_of zero (suc b) lt = refl
low_of (suc a) zero lt = omega (arith, lt)
low_of (suc a) (suc b) lt = omega (arith, lt)

high_of : (a b : ℕ) → b < 2 → high_bit (kind_of a b) ≡ b
high_of zero zero lt = refl
high_of (suc a) zero lt = refl
high_of zero (suc b) lt = omega (arith, lt)
high_of (suc a) (suc b) lt = omega (arith, lt)

halved : (h n : ℕ) → n < 2 ^ suc h → n / 2 < 2 ^ h
halved h n lt = omega (arith, lt)

pub low_back : (h l g : ℕ) → l < 2 ^ h → low_word (kinds_in h l g) ≡ l
low_back zero l g lt = omega (arith, lt)
low_back (suc h) l g lt =
    let e = low_back h (l / 2) (g / 2) (halved h l lt) in
    let b = low_of (l % 2) (g % 2) (omega arith) in
    omega (arith, e, b)

pub high_back : (h l g : ℕ) → g < 2 ^ h → high_word (kinds_in h l g) ≡ g
high_back zero l g lt = omega (arith, lt)
high_back (suc h) l g lt =
    let e = high_back h (l / 2) (g / 2) (halved h g lt) in
    let b = high_of (l % 2) (g % 2) (omega arith) in
    omega (arith, e, b)
