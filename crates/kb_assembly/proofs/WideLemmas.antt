-- A number of 32 bits as Rust's `parse` and `itoa` see it.
use Rattle.std.proofs.Common.{◌≡◌, ℕ, ◌<◌, ◌^◌, List, Bool, true, false, ◌&&◌}
use Rattle.std.proofs.Common.{nat_lt, Option, Some, None, Result, Ok, Err, refl, sym, ap, ◌∙◌, subst, arith, rules}
use Rattle.std.specs.Prelude.{decimal, bytes_eq, if◌then◌else◌}
use Rattle.std.specs.Str.{all_ascii_digits}
use Rattle.std.specs.Str.Parse.{ParsesUnsigned}
use Rattle.std.proofs.lemmas.Str.Parse.{IsNumeralModel, numerals_by_fold}
use Rattle.std.proofs.lemmas.Fmt.{parse-decimal, digits_value-decimal}
use Rattle.std.proofs.lemmas.Bool.{false≢true, ltb-true, lt-ltb}
use Rattle.std.proofs.lemmas.Slice.Eq.{bytes_eq-Decides}
use Rattle.kb_assembly.specs.Names.{read_on, wide_by, wide_in}

own : IsNumeralModel (λ ds. all_ascii_digits ds ≡ true) (read_on 0)
own = numerals_by_fold _ (search rules) read_on (search rules)

pub value_of_decimal : (n : ℕ) → n < 2 ^ 32 → read_on 0 (decimal n) ≡ n
value_of_decimal n small = digits_value-decimal own n (omega (arith, small))

both : (a b : Bool) → a && b ≡ true → (a ≡ true) × (b ≡ true)
both true b h = (refl, h)
both false b h = absurd (false≢true h)

-- the decimal form of a number is read as it
pub number_of_decimal : (n : ℕ) → n < 2 ^ 32 → wide_in (decimal n) ≡ Some n
number_of_decimal n small =
    let small_is : nat_lt n 4294967296 ≡ true = lt-ltb n 4294967296 small in
    let same : bytes_eq (decimal n) (decimal n) ≡ true = (bytes_eq-Decides (decimal n) (decimal n)).1 refl in
    ap (wide_by (decimal n)) (value_of_decimal n small)
    ∙ ap (λ b. if b && bytes_eq (decimal n) (decimal n) then Some n else None) small_is
    ∙ ap (λ b. if true && b then Some n else None) same

-- what is read as a number is its decimal form
pub decimal_of_number : (text : List ℕ) (n : ℕ) → wide_in text ≡ Some n → (text ≡ decimal n) × (n < 2 ^ 32)
decimal_of_number text n e = by (nat_lt v 4294967296 && bytes_eq (decimal v) text) refl e where
  v : ℕ
  v = read_on 0 text

  by : (b : Bool) → (nat_lt v 4294967296 && bytes_eq (decimal v) text) ≡ b → (if b then Some v else None) ≡ Some n →
      (text ≡ decimal n) × (n < 2 ^ 32)
  by true is e =
      let s : v ≡ n = cc in
      let p = both _ _ is in (
        sym (ap decimal (sym s) ∙ (bytes_eq-Decides (decimal v) text).0 p.1),
        subst (λ k. k < 4294967296) s (ltb-true v 4294967296 p.0),
      )
  by false is e = absurd (cc)

-- a text that is no number's decimal form is read as none
pub no_decimal : (text : List ℕ) → ((n : ℕ) → n < 2 ^ 32 → decimal n ≡ text → ⊥) → wide_in text ≡ None
no_decimal text none = by (wide_in text) refl where
  by : (o : Option ℕ) → wide_in text ≡ o → o ≡ None
  by None e = refl
  by (Some n) e = let p = decimal_of_number text n e in absurd (none n p.1 (sym p.0))

pub number_spelled : (text : List ℕ) (n : ℕ) → n < 2 ^ 32 → decimal n ≡ text → Some n ≡ wide_in text
number_spelled text n small e = sym (ap wide_in (sym e) ∙ number_of_decimal n small)

abbrev Parsed : {E : Type 0} → List ℕ → Result ℕ E → Type 0
Parsed text r = ParsesUnsigned 32 10 text r

parsed_as : {E : Type 0} (text : List ℕ) (r : Result ℕ E) (n : ℕ) → ParsesUnsigned 32 10 text r → n < 2 ^ 32 →
    decimal n ≡ text → r ≡ Ok n
parsed_as text r n h small e = parse-decimal 32 n text r small (omega (arith, small)) (sym e) h

pub not_parsed : {E : Type 0} (text : List ℕ) (r : Result ℕ E) (e : E) → ParsesUnsigned 32 10 text r → r ≡ Err e →
    None ≡ wide_in text
not_parsed text r e h is = sym (no_decimal text (λ n small same.
    let f = sym (parsed_as text r n h small same) ∙ is in absurd (cc)))

abbrev good : {A E : Type 0} → A → Result A E
good x = Ok x

pub not_spelled : {E : Type 0} (text : List ℕ) (r : Result ℕ E) (n : ℕ) → ParsesUnsigned 32 10 text r → r ≡ Ok n →
    bytes_eq (decimal n) text ≡ false → None ≡ wide_in text
not_spelled {E} text r n h is other = sym (no_decimal text (λ m small same.
    let f : good {E = E} m ≡ Ok n = sym (parsed_as text r m h small same) ∙ is in
    let g : m ≡ n = cc in
    absurd (false≢true (sym other ∙ (bytes_eq-Decides (decimal n) text).1 (ap decimal (sym g) ∙ same)))))
