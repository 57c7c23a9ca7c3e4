-- Noting choice after choice gives the last distinct ones.
use Rattle.std.proofs.Common.{◌≡◌, ℕ, zero, suc, Bool, true, false, if◌then◌else◌, not, List, [], ◌∷◌, take}
use Rattle.std.proofs.Common.{refl, sym, ap, subst, ◌∙◌, bytes_eq}
use Rattle.std.specs.List.{filter}
use Rattle.std.specs.Prelude.{⊤}
use Rattle.std.proofs.lemmas.Slice.Eq.{bytes_eq-Decides}
use Rattle.kb_palette.specs.History.{without, noted, history_of, others, distinct}

filter-idem : {A : Type 0} (p : A → Bool) (xs : List A) → filter p (filter p xs) ≡ filter p xs
filter-idem p [] = refl
filter-idem p (x ∷ xs) = (elim (p x) as (λ b. p x ≡ b
    → filter p (if b then x ∷ filter p xs else filter p xs) ≡ (if b then x ∷ filter p xs else filter p xs)) [
      | true ↦ λ e. rw e (ap (λ ys. x ∷ ys) (filter-idem p xs))
      | false ↦ λ e. filter-idem p xs
    ]) refl

filter-comm : {A : Type 0} (p q : A → Bool) (xs : List A) → filter p (filter q xs) ≡ filter q (filter p xs)
filter-comm p q [] = refl
filter-comm p q (x ∷ xs) = (elim (p x) as (λ b. p x ≡ b
    → filter p (if q x then x ∷ filter q xs else filter q xs)
    ≡ filter q (if b then x ∷ filter p xs else filter p xs)) [
      | true ↦ λ e. (elim (q x) as (λ d. filter p (if d then x ∷ filter q xs else filter q xs)
          ≡ (if d then x ∷ filter q (filter p xs) else filter q (filter p xs))) [
            | true ↦ rw e (ap (λ ys. x ∷ ys) (filter-comm p q xs))
            | false ↦ filter-comm p q xs
          ])
      | false ↦ λ e. (elim (q x) as (λ d. filter p (if d then x ∷ filter q xs else filter q xs)
          ≡ filter q (filter p xs)) [
            | true ↦ rw e (filter-comm p q xs)
            | false ↦ filter-comm p q xs
          ])
    ]) refl

-- no text is there twice
abbrev AreApart : List (List ℕ) → Type 0
AreApart [] = ⊤
AreApart (t ∷ ts) = (others t ts ≡ ts) × AreApart ts

apart-others : (text : List ℕ) (ts : List (List ℕ)) → AreApart ts → AreApart (others text ts)
apart-others text [] h = tt
apart-others text (t ∷ ts) h = (elim (not (bytes_eq text t)) as (λ b.
    AreApart (if b then t ∷ others text ts else others text ts)) [
      | true ↦ (
        filter-comm (λ u. not (bytes_eq t u)) (λ u. not (bytes_eq text u)) ts ∙ ap (others text) h.0,
        apart-others text ts h.1,
      )
      | false ↦ apart-others text ts h.1
    ])

apart-distinct : (past : List (List ℕ)) → AreApart (distinct past)
apart-distinct [] = tt
apart-distinct (t ∷ past) = (
  filter-idem (λ u. not (bytes_eq t u)) (distinct past),
  apart-others t (distinct past) (apart-distinct past),
)

without-others : (text : List ℕ) (ts : List (List ℕ)) → AreApart ts → without text ts ≡ others text ts
without-others text [] h = refl
without-others text (t ∷ ts) h = (elim (bytes_eq text t) as (λ b. bytes_eq text t ≡ b
    → (if b then ts else t ∷ without text ts) ≡ (if not b then t ∷ others text ts else others text ts)) [
      | true ↦ λ e. sym (subst (λ u. others u ts ≡ ts) (sym ((bytes_eq-Decides text t).0 e)) h.0)
      | false ↦ λ e. ap (λ us. t ∷ us) (without-others text ts h.1)
    ]) refl

take-take : {A : Type 0} (n : ℕ) (xs : List A) → take n (take n xs) ≡ take n xs
take-take zero xs = refl
take-take (suc n) [] = refl
take-take (suc n) (x ∷ xs) = ap (λ ys. x ∷ ys) (take-take n xs)

-- what was cut off doesn't come back
take-without : (n : ℕ) (text : List ℕ) (ts : List (List ℕ))
    → take n (without text (take (suc n) ts)) ≡ take n (without text ts)
take-without n text [] = refl
take-without zero text (t ∷ ts) = refl
take-without (suc n) text (t ∷ ts) = (elim (bytes_eq text t) as (λ b.
    take (suc n) (if b then take (suc n) ts else t ∷ without text (take (suc n) ts))
    ≡ take (suc n) (if b then ts else t ∷ without text ts)) [
      | true ↦ take-take (suc n) ts
      | false ↦ ap (λ us. t ∷ us) (take-without n text ts)
    ])

pub history-last : (past : List (List ℕ)) → history_of past ≡ take 50 (distinct past)
history-last [] = refl
history-last (text ∷ past) =
    ap (noted text) (history-last past)
    ∙ ap (λ us. text ∷ us)
    (take-without 49 text (distinct past)
    ∙ ap (take 49) (without-others text (distinct past) (apart-distinct past)))
