-- Where lines begin, byte by byte.
use Rattle.std.proofs.Common.{◌≡◌, ◌<◌, ◌+◌, ℕ, zero, suc, List, Bool, true, false}
use Rattle.std.proofs.Common.{inl, inr, refl, sym, subst, ap, arith}
use Rattle.std.specs.Prelude.{if◌then◌else◌, slice_index, ◌⊎◌}
use Rattle.kb_places.specs.Position.{IsLineBegin, ends_line}

pub first_line : (text : List ℕ) → IsLineBegin text 0 0
first_line text = record { at_most = omega arith; begins = λ h. absurd (omega (arith, h)); one_line = λ k p q. absurd (omega (arith, q)) }

same_or_before : (k n : ℕ) → k < suc n → (k < n) ⊎ (k ≡ n)
same_or_before zero zero p = inr refl
same_or_before zero (suc n) p = inl (omega arith)
same_or_before (suc k) zero p = absurd (omega (arith, p))
same_or_before (suc k) (suc n) p =
    elim (same_or_before k n (omega (arith, p))) as (λ _. (suc k < suc n) ⊎ (suc k ≡ suc n)) [
      | inl before ↦ inl (omega (arith, before))
      | inr same ↦ inr (ap (λ (m : ℕ). suc m) same)
    ]

by_end : (text : List ℕ) (n begin : ℕ) (b : Bool) → ends_line (slice_index text n) ≡ b
    → IsLineBegin text n begin → IsLineBegin text (n + 1) (if b then n + 1 else begin)
by_end text n begin true e is = record {
  at_most = omega arith;
  begins = λ _. subst (λ (k : ℕ). ends_line (slice_index text k) ≡ true) (omega arith) e;
  one_line = λ k p q. absurd (omega (arith, p, q));
}
by_end text n begin false e is = record {
  at_most = omega (arith, is.at_most);
  begins = is.begins;
  one_line = λ k p q. elim (same_or_before k n (omega (arith, q))) as (λ _. ends_line (slice_index text k) ≡ false) [
    | inl before ↦ is.one_line k p before
    | inr same ↦ subst (λ (j : ℕ). ends_line (slice_index text j) ≡ false) (sym same) e
  ];
}

-- behind one more byte
pub next_line : (text : List ℕ) (n begin next : ℕ) → IsLineBegin text n begin
    → next ≡ (if ends_line (slice_index text n) then n + 1 else begin) → IsLineBegin text (n + 1) next
next_line text n begin next is e =
    subst (IsLineBegin text (n + 1)) (sym e) (by_end text n begin (ends_line (slice_index text n)) refl is)

-- the same text and index
pub same_line : (text t : List ℕ) (index n begin : ℕ) → IsLineBegin t n begin → t ≡ text → n ≡ index
    → IsLineBegin text index begin
same_line text t index n begin is e f =
    subst (λ (k : ℕ). IsLineBegin text k begin) f (subst (λ (l : List ℕ). IsLineBegin l n begin) e is)
