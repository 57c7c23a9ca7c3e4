-- `split_once` and `strip_suffix` at a text, as functions of the bytes.
use Rattle.std.proofs.Common.{◌≡◌, ℕ, zero, suc, ◌+◌, ◌-◌, ◌<◌, ◌≤◌, nat_eq, Bool, true, false, refl, sym, ◌∙◌, ap}
use Rattle.std.proofs.Common.{List, [], ◌∷◌, ◌++◌, length, take, drop, Option, Some, None, arith}
use Rattle.std.specs.Prelude.{option_map, MatchOption}
use Rattle.std.specs.List.{starts_with, ends_with}
use Rattle.std.specs.Str.Pattern.{FindsText, FindsTextSuffix, LacksTextAt, SplitsAroundMatch, StripsSuffix}
use Rattle.std.proofs.lemmas.Slice.Eq.{starts_is, ends_is}
use Rattle.std.proofs.lemmas.Bool.Decides.{Decides-eqb}
use Rattle.kb_guess.specs.Cutting.{both_sides, at_front, around, without_end}
use denote.Ref.{Bor}

is_false : (b : Bool) → (b ≡ true → ⊥) → b ≡ false
is_false true h = absurd (h refl)
is_false false h = refl

begins : (p s rest : List ℕ) → s ≡ p ++ rest → starts_with nat_eq s p ≡ true
begins p s rest e = (starts_is Decides-eqb s p (starts_with nat_eq s p) refl).1 rest e

begins_not : (p s : List ℕ) → LacksTextAt p s zero → starts_with nat_eq s p ≡ false
begins_not p s h =
    is_false _ (λ t. h (drop (length p) s) ((starts_is Decides-eqb s p (starts_with nat_eq s p) refl).0 t))

lacks_at_front : (p s : List ℕ) → LacksTextAt p s zero → at_front p s ≡ None
lacks_at_front p s h = rw (begins_not p s h)

-- no place of a mark
around-none : (p s : List ℕ) → ((i : ℕ) → i ≤ length s → LacksTextAt p s i) → around p s ≡ None
around-none p [] h = lacks_at_front p [] (h zero (omega arith))
around-none p (b ∷ bs) h =
    let rest : around p bs ≡ None = around-none p bs (λ i l. h (suc i) (omega arith)) in
    rw (lacks_at_front p (b ∷ bs) (h zero (omega arith)), rest)

front_found : (p s : List ℕ) (j : ℕ) → s ≡ p ++ drop j s → j ≡ length p → at_front p s ≡ Some ([], drop j s)
front_found p s j split ends =
    rw (begins p s (drop j s) split) (ap (λ n. Some ([], drop n s)) (sym ends))

-- the first place of a mark
around-some : (p s : List ℕ) (i j : ℕ) → ((k : ℕ) → k < i → LacksTextAt p s k) → drop i s ≡ p ++ drop j s
    → j ≡ i + length p → i ≤ length s → around p s ≡ Some (take i s, drop j s)
around-some p [] zero j lacks split ends within = front_found p [] j split (omega arith)
around-some p [] (suc i) j lacks split ends within = absurd (omega arith)
around-some p (b ∷ bs) zero j lacks split ends within = rw (front_found p (b ∷ bs) j split (omega arith))
around-some p (b ∷ bs) (suc i) j lacks split ends within =
    let e : j ≡ suc (i + length p) = omega arith in
    let later : drop i bs ≡ p ++ drop (i + length p) bs = split ∙ ap (λ n. p ++ drop n (b ∷ bs)) e in
    let rest : around p bs ≡ Some (take i bs, drop (i + length p) bs) =
    around-some p bs i (i + length p) (λ k l. lacks (suc k) (omega arith)) later refl (omega arith) in
    rw (lacks_at_front p (b ∷ bs) (lacks zero (omega arith)), rest)
    (ap (λ n. Some (b ∷ take i bs, drop n (b ∷ bs))) (sym e))

-- the clause of `split_once`
pub cut_once : (p s : List ℕ) (r : Option (Bor (List ℕ) × Bor (List ℕ)))
    → MatchOption r (FindsText p s None) (λ x. SplitsAroundMatch (FindsText p) s x.0.now x.1.now)
    → option_map both_sides r ≡ around p s
cut_once p s None h = sym (around-none p s h)
cut_once p s (Some x) h =
    let within : h.0 ≤ length s = omega (arith, h.5, h.7) in
    (λ k. Some (h.3 k, h.4 k)) ∙ sym (around-some p s h.0 h.1 h.2.0 h.2.1.split h.2.1.ends within)

-- the clause of `strip_suffix`
pub cut_end : (p s : List ℕ) (r : Option (Bor (List ℕ)))
    → MatchOption r (FindsTextSuffix p s None) (λ x. StripsSuffix (FindsTextSuffix p) s x.now)
    → option_map (λ x. x.now) r ≡ without_end p s
cut_end p s None h =
    let no : ends_with nat_eq s p ≡ false =
    is_false _ (λ t. h (take (length s - length p) s) ((ends_is Decides-eqb s p (ends_with nat_eq s p) refl).0 t)) in
    rw no
cut_end p s (Some x) h =
    let yes : ends_with nat_eq s p ≡ true =
    (ends_is Decides-eqb s p (ends_with nat_eq s p) refl).1 (take (length s - h.0) s) h.1.1 in
    rw yes (ap Some (h.2 ∙ ap (λ n. take (length s - n) s) h.1.0))
