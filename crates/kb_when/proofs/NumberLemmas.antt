-- Rust's `parse` returns the integer that the text denotes.
use Rattle.std.proofs.Common.{◌≡◌, ◌≢◌, ℕ, suc, ◌<◌, ◌^◌, List, [], ◌∷◌, Bool, true, false, cond, ◌&&◌}
use Rattle.std.proofs.Common.{nat_eq, nat_lt, Some, Result, Ok, Err, get_or, length, refl, ap, arith, rules}
use Rattle.std.proofs.Common.{w64}
use Rattle.std.specs.Prelude.{ℤ, pos, neg_ℤ}
use Rattle.std.specs.Result.{result_ok, OkIff}
use Rattle.std.specs.Str.{all_ascii_digits}
use Rattle.std.specs.Str.Parse.{ParsesSigned}
use Rattle.std.proofs.lemmas.Str.Parse.{IsNumeralModel, numerals_by_fold, parse_signed_plain}
use Rattle.std.proofs.lemmas.Str.Parse.{parse_signed_minus}
use Rattle.std.proofs.lemmas.Bool.{false≢true}
use Rattle.std.proofs.lemmas.Bool.Decides.{nat_tests}
use Rattle.kb_when.specs.Number.{read_on, number_of, some_if, is_below}

own : IsNumeralModel (λ ds. all_ascii_digits ds ≡ true) (read_on 0)
own = numerals_by_fold _ (search rules) read_on (search rules)

given : {E : Type 0} (r : Result ℤ E) (Q : Type 0) (b : Bool) (z : ℤ) → OkIff r Q z → (Q → b ≡ true)
    → (b ≡ true → Q) → result_ok r ≡ some_if b z
given (Ok x) Q true z h p q = ap Some h.1
given (Ok x) Q false z h p q = absurd (false≢true (p h.0))
given (Err e) Q true z h p q = absurd (h (q refl))
given (Err e) Q false z h p q = refl

both : (a b : Bool) → a && b ≡ true → (a ≡ true) × (b ≡ true)
both true b h = (refl, h)
both false b h = absurd (false≢true h)

below : (ds : List ℕ) (n : ℕ) → all_ascii_digits ds ≡ true → 0 < length ds → read_on 0 ds < n
    → is_below n ds ≡ true
below ds n p q r = rw p (grind (arith, nat_tests))

of_below : (ds : List ℕ) (n : ℕ) → is_below n ds ≡ true
    → (all_ascii_digits ds ≡ true) × (0 < length ds) × (read_on 0 ds < n)
of_below ds n h =
    let a = both (all_ascii_digits ds) (nat_lt 0 (length ds) && nat_lt (read_on 0 ds) n) h in
    let b = both (nat_lt 0 (length ds)) (nat_lt (read_on 0 ds) n) a.1 in
    let b0 = b.0 in let b1 = b.1 in
    (a.0, grind (arith, nat_tests), grind (arith, nat_tests))

pub number-parsed : {E : Type 0} (bs : List ℕ) (r : Result ℤ E) → get_or bs 0 0 ≢ 43
    → ParsesSigned w64 10 bs r → result_ok r ≡ number_of bs
number-parsed [] r plain h =
    given r _ false (pos (read_on 0 []))
    (parse_signed_plain own w64 [] r h (λ e. omega arith) (λ e. omega arith))
    (λ p. absurd (omega (arith, p.1))) (λ e. absurd (false≢true e))
number-parsed (c ∷ cs) r plain h = by (nat_eq c 45) refl where
  by : (b : Bool) → nat_eq c 45 ≡ b
      → result_ok r ≡ cond b (some_if (is_below (suc (2 ^ 63)) cs) (neg_ℤ (pos (read_on 0 cs))))
      (some_if (is_below (2 ^ 63) (c ∷ cs)) (pos (read_on 0 (c ∷ cs))))
  by true e =
      let m : c ≡ 45 = grind (arith, nat_tests) in
      given r _ _ _ (parse_signed_minus own w64 (c ∷ cs) r h m)
      (λ p. below cs (suc (2 ^ 63)) p.0 p.1 (omega (arith, p.2)))
      (λ q. let a = of_below cs (suc (2 ^ 63)) q in (a.0, a.1, omega (arith, a.2)))
  by false e =
      let m : c ≢ 45 = grind (arith, nat_tests) in
      given r _ _ _ (parse_signed_plain own w64 (c ∷ cs) r h plain m)
      (λ p. below (c ∷ cs) (2 ^ 63) p.0 p.1 p.2)
      (λ q. of_below (c ∷ cs) (2 ^ 63) q)

pub not_there : (bs : List ℕ) → length bs ≡ 0 → get_or bs 0 0 ≢ 43
not_there [] h e = omega arith
not_there (c ∷ cs) h e = absurd (omega arith)
