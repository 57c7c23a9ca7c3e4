-- Kinds in two words: push and pop.
use Rattle.std.proofs.Common.{◌≡◌, ◌<◌, ◌≤◌, ℕ, zero, suc, ◌+◌, ◌-◌, ◌*◌, ◌/◌, ◌%◌, ◌^◌, List, ◌∷◌}
use Rattle.std.proofs.Common.{length, Ok}
use Rattle.std.proofs.Common.{refl, sym, ap, ◌∙◌, arith}
use Rattle.std.proofs.lemmas.Bool.{le-leb}
use Rattle.kb_base.specs.Reading.{unless}
use Rattle.kb_core.specs.declared.arg.Kind.{Kind}
use Rattle.kb_core.specs.declared.arg.Kind.TheVariants as kind
use Rattle.kb_verify.specs.declared.fault.Defect.TheVariants as defect
use Rattle.kb_verify.specs.Check.{fitting}
use Rattle.kb_verify.specs.Packed.{low_bit, high_bit, kind_of, kinds_in}
use Rattle.kb_verify.specs.Packed.{low_word, high_word, counted, low_back, high_back}

kind_again : (k : Kind) → kind_of (low_bit k) (high_bit k) ≡ k
kind_again kind.Text = refl
kind_again kind.Number = refl
kind_again kind.Truth = refl
kind_again kind.Any = refl

bit : (k : Kind) → (low_bit k < 2) × (high_bit k < 2)
bit kind.Text = (omega arith, omega arith)
bit kind.Number = (omega arith, omega arith)
bit kind.Truth = (omega arith, omega arith)
bit kind.Any = (omega arith, omega arith)

pub one_more : (h l g : ℕ) (k : Kind) →
    kinds_in (suc h) (2 * l + low_bit k) (2 * g + high_bit k) ≡ k ∷ kinds_in h l g
one_more h l g k =
    let b = bit k in
    let lm : (2 * l + low_bit k) % 2 ≡ low_bit k = omega (arith, b.0) in
    let hm : (2 * g + high_bit k) % 2 ≡ high_bit k = omega (arith, b.1) in
    let ld : (2 * l + low_bit k) / 2 ≡ l = omega (arith, b.0) in
    let hd : (2 * g + high_bit k) / 2 ≡ g = omega (arith, b.1) in
    let k' = ap (λ a. kind_of a ((2 * g + high_bit k) % 2)) lm ∙ ap (kind_of (low_bit k)) hm ∙ kind_again k in
    let ks' = ap (λ a. kinds_in h a ((2 * g + high_bit k) / 2)) ld ∙ ap (kinds_in h l) hd in
    ap (λ x. x ∷ kinds_in h ((2 * l + low_bit k) / 2) ((2 * g + high_bit k) / 2)) k' ∙ ap (λ xs. k ∷ xs) ks'

pub one_less : (h l g : ℕ) → (h ≡ 0 → ⊥) →
    kinds_in h l g ≡ kind_of (l % 2) (g % 2) ∷ kinds_in (h - 1) (l / 2) (g / 2)
one_less zero l g ne = absurd (ne refl)
one_less (suc h) l g ne =
    let e : h ≡ suc h - 1 = omega arith in
    ap (λ n. kind_of (l % 2) (g % 2) ∷ kinds_in n (l / 2) (g / 2)) e

pub same_height : (h l g i m f : ℕ) → kinds_in h l g ≡ kinds_in i m f → h ≡ i
same_height h l g i m f e = sym (counted h l g) ∙ ap length e ∙ counted i m f

pub same_low : (h l g i m f : ℕ) → l < 2 ^ h → m < 2 ^ i → kinds_in h l g ≡ kinds_in i m f → l ≡ m
same_low h l g i m f lt lt' e = sym (low_back h l g lt) ∙ ap low_word e ∙ low_back i m f lt'

pub same_high : (h l g i m f : ℕ) → g < 2 ^ h → f < 2 ^ i → kinds_in h l g ≡ kinds_in i m f → g ≡ f
same_high h l g i m f lt lt' e = sym (high_back h l g lt) ∙ ap high_word e ∙ high_back i m f lt'

pub fits : (ks : List Kind) → length ks ≤ 64 → Ok ks ≡ fitting ks
fits ks le = ap (λ b. unless defect.TooHigh b ks) (sym (le-leb (length ks) 64 le))
