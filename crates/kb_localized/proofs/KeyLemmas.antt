-- A text between two `%`.
use Rattle.std.proofs.Common.{◌≡◌, ◌+◌, ◌-◌, ◌≤◌, ℕ, true, List, arith, length, refl, subst}
use Rattle.std.specs.Prelude.{slice_index, ◌==◌, ◌&&◌, nat_le}
use Rattle.std.specs.Str.{IsCharBoundary, IsUtf8}
use Rattle.std.proofs.lemmas.Bool.Decides.{nat_tests}
use Rattle.std.proofs.lemmas.Str.{IsCharBoundary-after_ascii, IsCharBoundary-before_ascii}
use Rattle.kb_localized.specs.Messages.{has_key}

parts : (n a b : ℕ) → ((nat_le 2 n && (a == 37)) && (b == 37)) ≡ true → (2 ≤ n) × (a ≡ 37) × (b ≡ 37)
parts n a b e = (grind (arith, nat_tests), grind (arith, nat_tests), grind (arith, nat_tests))

pub with_key : (text : List ℕ) → has_key text ≡ true
    → (2 ≤ length text) × (slice_index text 0 ≡ 37) × (slice_index text (length text - 1) ≡ 37)
unfolding has_key
with_key text e = parts (length text) (slice_index text 0) (slice_index text (length text - 1)) e

pub key_begins : (text : List ℕ) → IsUtf8 text → has_key text ≡ true → IsCharBoundary text 1
key_begins text u e =
    let k = with_key text e in
    let from : 0 + 1 ≡ 1 = refl in
    subst (IsCharBoundary text) from
    (IsCharBoundary-after_ascii text 0 u (omega (arith, k.0)) (omega (arith, k.1)))

pub key_ends : (text : List ℕ) → has_key text ≡ true → IsCharBoundary text (length text - 1)
key_ends text e =
    let k = with_key text e in
    IsCharBoundary-before_ascii text (length text - 1) (omega (arith, k.0)) (omega (arith, k.2))
