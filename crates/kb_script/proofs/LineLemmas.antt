-- Bytes that are a text, the first line of bytes, and texts that are numbers.
use Rattle.std.proofs.Common.{◌≡◌, ℕ, Bool, true, false, List, [], ◌∷◌, length, refl, sym, ap, ◌∙◌}
use Rattle.std.proofs.Common.{cond, zero, suc}
use Rattle.std.proofs.Common.{arith, take, drop, ◌+◌, ◌-◌, ◌<◌, ◌^◌, subst}
use Rattle.std.specs.Prelude.{Some, None, position, Result, Ok, Err, not, ◌&&◌, nat_eq, nat_lt}
use Rattle.std.specs.List.{slice_split, onto_first, list_all}
use Rattle.std.specs.Char.{is_ascii_digit}
use Rattle.std.specs.Result.{OkIff, result_ok}
use Rattle.std.specs.Str.{IsUtf8, is_utf8, all_ascii_digits}
use Rattle.std.specs.Str.Parse.{digits_value, ParsesUnsigned}
use Rattle.std.proofs.lemmas.Str.{is_utf8-from_IsUtf8, IsUtf8-from_is_utf8}
use Rattle.std.proofs.lemmas.Str.Parse.{parse_digits, numerals_by_value, tells_all_ascii_digits}
use Rattle.std.proofs.lemmas.List.Splits.{slice_split_first, slice_split_none}
use Rattle.std.proofs.lemmas.List.{take_all, length-drop}
use Rattle.std.proofs.lemmas.Bool.{ltb-true, ltb-false, lt-ltb, ne_eqb, false≢true}
use Rattle.std.proofs.lemmas.List.Elements.{All-from_get_or}
use Rattle.std.proofs.lemmas.List.Sums.{fails_before_first}
use Rattle.kb_script.specs.Script.{number_of, lines_of, is_line_feed, without_return, without_returns}

pub is_text : (bs : List ℕ) → IsUtf8 bs → is_utf8 bs ≡ true
is_text bs h = is_utf8-from_IsUtf8 bs h

false_unless : (b : Bool) → (b ≡ true → ⊥) → b ≡ false
false_unless true h = absurd (h refl)
false_unless false h = refl

pub is_no_text : (bs : List ℕ) → ¬ (IsUtf8 bs) → is_utf8 bs ≡ false
is_no_text bs h = false_unless (is_utf8 bs) (λ e. h (IsUtf8-from_is_utf8 bs e))

position_cases : (b : Bool) (n : ℕ) (i : ℕ) → cond b (Some n) None ≡ Some i → (b ≡ true) × (n ≡ i)
position_cases true n i e = (refl, cc)
position_cases false n i e = cc

pub position_none : (b : Bool) (n : ℕ) → cond b (Some n) None ≡ None → b ≡ false
position_none true n e = cc
position_none false n e = refl

-- a list that is split has a first part
record HasFirst (parts : List (List ℕ)) : Type 0 where
  first : List ℕ
  more : List (List ℕ)
  is : parts ≡ first ∷ more

onto_first-HasFirst : (x : ℕ) (parts : List (List ℕ)) → HasFirst (onto_first x parts)
onto_first-HasFirst x [] = record { first = x ∷ []; more = []; is = refl }
onto_first-HasFirst x (part ∷ parts) = record { first = x ∷ part; more = parts; is = refl }

either-HasFirst : (b : Bool) (x : ℕ) (parts : List (List ℕ))
    → HasFirst (cond b ([] ∷ parts) (onto_first x parts))
either-HasFirst true x parts = record { first = []; more = parts; is = refl }
either-HasFirst false x parts = onto_first-HasFirst x parts

split-HasFirst : (bs : List ℕ) → HasFirst (slice_split is_line_feed bs)
split-HasFirst [] = record { first = []; more = []; is = refl }
split-HasFirst (b ∷ bs) = either-HasFirst (is_line_feed b) b (slice_split is_line_feed bs)

without_returns-cons : (line : List ℕ) (parts : List (List ℕ)) → HasFirst parts
    → without_returns (line ∷ parts) ≡ without_return line ∷ without_returns parts
without_returns-cons line parts h =
    ap (λ (ps : List (List ℕ)). without_returns (line ∷ ps)) h.is
    ∙ ap (λ (ps : List (List ℕ)). without_return line ∷ without_returns ps) (sym h.is)

-- the first line of a script, and its only one
pub first_line : (bs : List ℕ) (i : ℕ) → position is_line_feed bs ≡ Some i
    → lines_of bs ≡ without_return (take i bs) ∷ lines_of (take (length bs - (i + 1)) (drop (i + 1) bs))
first_line bs i e =
    let c = position_cases _ _ _ e in
    let below = ltb-true _ _ c.0 in
    let same : take (length bs - (i + 1)) (drop (i + 1) bs) ≡ drop (i + 1) bs =
    take_all _ _ (simp length-drop (omega arith)) in
    let parts : slice_split is_line_feed bs ≡ take i bs ∷ slice_split is_line_feed (drop (i + 1) bs) =
    subst (λ n. slice_split is_line_feed bs ≡ take n bs ∷ slice_split is_line_feed (drop (n + 1) bs)) c.1
    (slice_split_first is_line_feed bs 0 below) in
    rw same (ap without_returns parts ∙ without_returns-cons (take i bs) _ (split-HasFirst (drop (i + 1) bs)))

pub only_line : (bs : List ℕ) → position is_line_feed bs ≡ None → lines_of bs ≡ bs ∷ []
only_line bs e =
    let past = ltb-false _ _ (position_none _ _ e) in
    ap without_returns (slice_split_none is_line_feed bs
    (All-from_get_or (λ b. is_line_feed b ≡ false) bs 0
    (λ i h. fails_before_first is_line_feed bs i 0 (omega arith))))

gives : {E : Type 0} (r : Result ℕ E) (some small : Bool) (P : Type 0) (v : ℕ)
    → (P → (some ≡ true) × (small ≡ true)) → ((some ≡ true) × (small ≡ true) → P) → OkIff r P v
    → result_ok r ≡ cond (some && small) (Some v) None
gives (Ok n) true true P v to from h = ap Some h.1
gives (Ok n) true false P v to from h = absurd (false≢true (to h.0).1)
gives (Ok n) false small P v to from h = absurd (false≢true (to h.0).0)
gives (Err e) true true P v to from h = absurd (h (from (refl, refl)))
gives (Err e) true false P v to from h = refl
gives (Err e) false small P v to from h = refl

not_empty : (n : ℕ) → 0 < n → not (nat_eq n 0) ≡ true
not_empty n h = ap not (ne_eqb n 0 (λ e. omega (arith, e)))

not_zero : (n : ℕ) → not (nat_eq n 0) ≡ true → 0 < n
not_zero zero e = absurd (false≢true e)
not_zero (suc n) e = omega arith

all_digits : (bs : List ℕ) → list_all is_ascii_digit bs ≡ all_ascii_digits bs
all_digits [] = refl
all_digits (b ∷ bs) = ap (λ (rest : Bool). is_ascii_digit b && rest) (all_digits bs)

-- `parse` of decimal digits gives the number that they denote
pub number : {E : Type 0} (digits : List ℕ) (r : Result ℕ E) → ParsesUnsigned 64 10 digits r
    → list_all is_ascii_digit digits ≡ true → result_ok r ≡ number_of digits
number digits r parses all =
    let some = not (nat_eq (length digits) 0) in
    let value = digits_value 10 digits in
    let small = nat_lt value (2 ^ 64) in
    gives r some small ((0 < length digits) × (value < 2 ^ 64)) value
    (λ p. (not_empty (length digits) p.0, lt-ltb value (2 ^ 64) p.1))
    (λ p. (not_zero (length digits) p.0, ltb-true value (2 ^ 64) p.1))
    (parse_digits (numerals_by_value _ tells_all_ascii_digits) 64 digits r parses
    (sym (all_digits digits) ∙ all))
    ∙ ap (λ (b : Bool). cond (b && (some && small)) (Some value) None) (sym all)

-- a text with other characters than digits is no number
pub no_number : (digits : List ℕ) → list_all is_ascii_digit digits ≡ false → None ≡ number_of digits
no_number digits none =
    ap (λ (b : Bool). cond (b && (not (nat_eq (length digits) 0) && nat_lt (digits_value 10 digits) (2 ^ 64)))
    (Some (digits_value 10 digits)) None) (sym none)

pub ruleset numbers = (number, no_number)
