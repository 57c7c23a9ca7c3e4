-- A header from its bytes: one byte more or less, its lines, and numbers.
use Rattle.std.proofs.Common.{◌≡◌, ℕ, Bool, true, false, zero, suc, List, [], ◌∷◌, length, refl, sym, ap, ◌∙◌}
use Rattle.std.proofs.Common.{cond, arith, take, drop, get_or, ◌+◌, ◌-◌, ◌<◌, ◌≤◌, ◌^◌, subst}
use Rattle.std.specs.Prelude.{Some, None, position, Ok, Err, not, ◌&&◌, ◌==◌, nat_eq, nat_lt, nat_le}
use Rattle.std.specs.Char.{is_ascii_digit}
use Rattle.std.specs.List.{before_first, list_all, position_or_len}
use Rattle.std.specs.Str.{IsUtf8, all_ascii_digits}
use Rattle.std.specs.Str.Parse.{digits_value, ParsesUnsigned}
use Rattle.std.proofs.lemmas.Bool.{ltb-false, false≢true, lt-leb}
use Rattle.std.proofs.lemmas.List.{take_all, length-drop, drop_more, drop-drop, get_or_default}
use Rattle.std.proofs.lemmas.Str.{IsUtf8-from_ascii}
use Rattle.std.proofs.lemmas.Str.Ascii.{IsAscii-from_all}
use Rattle.std.proofs.lemmas.Str.Parse.{IsNumeralModel, parse_digits, numerals_by_value, tells_all_ascii_digits, digit_at}
use Rattle.kb_messages.specs.Header.{ends_header, header_len, name_begins, or_here, value_in, is_number, length_of}
use Rattle.kb_messages.specs.declared.fault.FrameFault.TheVariants.{TooLong, WrongLength}

-- ---- lines

first_of : (b : Bool) (n end : ℕ) (text : List ℕ) → Some end ≡ cond b (Some n) None → take end text ≡ take n text
first_of true n end text e = let same : end ≡ n = cc in ap (λ k. take k text) same
first_of false n end text e = cc

none_of : (b : Bool) (n : ℕ) → None ≡ cond b (Some n) None → b ≡ false
none_of true n e = cc
none_of false n e = refl

pub line_up_to : (text : List ℕ) (end : ℕ) → Some end ≡ position (λ b. b == 10) text
    → take end text ≡ before_first (λ b. b == 10) text
line_up_to text end e =
    first_of (nat_lt (position_or_len (λ b. b == 10) text) (length text)) (position_or_len (λ b. b == 10) text) end text e

pub line_is_all : (text : List ℕ) → None ≡ position (λ b. b == 10) text → text ≡ before_first (λ b. b == 10) text
line_is_all text e =
    let n = position_or_len (λ b. b == 10) text in
    let far : length text ≤ n = ltb-false n (length text) (none_of (nat_lt n (length text)) n e) in
    sym (take_all n text far)

pub ruleset line_ends = (line_up_to, line_is_all)

-- ---- the end of a header

slice_is : (text : List ℕ) (at : ℕ) → take (length text - at) (drop at text) ≡ drop at text
slice_is text at = take_all (length text - at) (drop at text) (simp length-drop (omega arith))

one_on : (b : ℕ) (bs : List ℕ) → ends_header (b ∷ bs) ≡ false → header_len (b ∷ bs) ≡ suc (header_len bs)
one_on b bs e = ap (λ (t : Bool). cond t 0 (suc (header_len bs))) e

pub header_goes_on : (text : List ℕ) (at : ℕ) → at < length text
    → header_len text ≡ at + header_len (drop at text)
    → ends_header (take (length text - at) (drop at text)) ≡ false
    → header_len text ≡ at + 1 + header_len (drop (at + 1) text)
header_goes_on text at some before fails =
    let cut = drop_more text at 0 some in
    let here = one_on (get_or text at 0) (drop (at + 1) text)
    (subst (λ t. ends_header t ≡ false) (slice_is text at ∙ cut) fails) in
    let more = ap header_len cut ∙ here in
    omega (arith, before, more)

-- ---- the last name

lifted : (n : ℕ) (text v : List ℕ) → value_in (drop n text) ≡ Some v → value_in text ≡ Some v
lifted zero text v e = e
lifted (suc n) [] v e = e
lifted (suc n) (b ∷ bs) v e = ap (or_here (b ∷ bs)) (lifted n bs v e)

value_here : (text : List ℕ) (at : ℕ) → at < length text
    → value_in (drop at text) ≡ or_here (drop at text) (value_in (drop (at + 1) text))
value_here text at some =
    let cut = drop_more text at 0 some in
    ap value_in cut ∙ ap (λ (t : List ℕ). or_here t (value_in (drop (at + 1) text))) (sym cut)

next_is : (left : ℕ) → 0 < left → left - 1 + 1 ≡ left
next_is left some = omega arith

before_none : (text : List ℕ) (left : ℕ) → 0 < left → left ≤ length text → value_in (drop left text) ≡ None
    → value_in (drop (left - 1) text) ≡ or_here (drop (left - 1) text) None
before_none text left some within none =
    value_here text (left - 1) (omega arith)
    ∙ ap (λ (n : ℕ). or_here (drop (left - 1) text) (value_in (drop n text))) (next_is left some)
    ∙ ap (or_here (drop (left - 1) text)) none

pub value_found : (text : List ℕ) (left : ℕ) → 0 < left → left ≤ length text → value_in (drop left text) ≡ None
    → name_begins (take (length text - (left - 1)) (drop (left - 1) text)) ≡ true
    → Some (take (length text - (left - 1 + 15)) (drop (left - 1 + 15) text)) ≡ value_in text
value_found text left some within none begins =
    let rest = drop (left - 1) text in
    let is : name_begins rest ≡ true = subst (λ t. name_begins t ≡ true) (slice_is text (left - 1)) begins in
    let found : value_in rest ≡ Some (drop 15 rest) =
    before_none text left some within none ∙ ap (λ (b : Bool). cond b (Some (drop 15 rest)) None) is in
    ap Some (slice_is text (left - 1 + 15))
    ∙ sym (lifted (left - 1) text _ (found ∙ ap Some (drop-drop 15 (left - 1) text)))

pub value_not_here : (text : List ℕ) (left : ℕ) → 0 < left → left ≤ length text → value_in (drop left text) ≡ None
    → name_begins (take (length text - (left - 1)) (drop (left - 1) text)) ≡ false
    → value_in (drop (left - 1) text) ≡ None
value_not_here text left some within none fails =
    let rest = drop (left - 1) text in
    let is : name_begins rest ≡ false = subst (λ t. name_begins t ≡ false) (slice_is text (left - 1)) fails in
    before_none text left some within none ∙ ap (λ (b : Bool). cond b (Some (drop 15 rest)) None) is

-- ---- numbers

all_digits : (bs : List ℕ) → list_all is_ascii_digit bs ≡ all_ascii_digits bs
all_digits [] = refl
all_digits (b ∷ bs) = ap (λ (rest : Bool). is_ascii_digit b && rest) (all_digits bs)

own : IsNumeralModel (λ ds. all_ascii_digits ds ≡ true) (digits_value 10)
own = numerals_by_value _ tells_all_ascii_digits

both : (a b : Bool) → (a && b) ≡ true → (a ≡ true) × (b ≡ true)
both true b e = (refl, e)
both false b e = absurd (false≢true e)

-- both tests of a number
pub record IsNumber (text : List ℕ) : Type 0 where
  pub some : 0 < length text
  pub digits : all_ascii_digits text ≡ true

not_zero : (n : ℕ) → not (nat_eq n 0) ≡ true → 0 < n
not_zero zero e = absurd (false≢true e)
not_zero (suc n) e = omega arith

pub number : (text : List ℕ) → true ≡ is_number text → IsNumber text
number text e =
    let p = both (not (nat_eq (length text) 0)) (list_all is_ascii_digit text) (sym e) in
    record { some = not_zero (length text) p.0; digits = sym (all_digits text) ∙ p.1 }

pub is_text : (text : List ℕ) → true ≡ is_number text → IsUtf8 text
is_text text e =
    let n = number text e in
    IsUtf8-from_ascii text (IsAscii-from_all text (λ k d below.
    let range = digit_at text k (own.to text n.digits) below in
    omega (arith, range, get_or_default text k d 0 below)))

over : (a b : ℕ) → ¬ (a < b) → b ≤ a
over a b h = omega (arith, h)

-- what doesn't parse is too long
pub too_long : (text digits : List ℕ) → true ≡ is_number text → digits ≡ text
    → ParsesUnsigned {E = Unit {0}} 64 10 digits (Err tt) → Err TooLong ≡ length_of text
too_long text digits is same parses =
    let n = number text is in
    let its = subst (λ t. ParsesUnsigned {E = Unit {0}} 64 10 t (Err tt)) same parses in
    let large = parse_digits own {E = Unit {0}} 64 text (Err tt) its n.digits in
    let far : (2 ^ 64 ≤ digits_value 10 text) = over (digits_value 10 text) (2 ^ 64) (λ h. large (n.some, h)) in
    sym (ap (λ (b : Bool). cond b (cond (nat_le (digits_value 10 text) 16777216) (Ok (digits_value 10 text)) (Err TooLong)) (Err WrongLength)) (sym is)
    ∙ ap (λ (b : Bool). cond b (Ok (digits_value 10 text)) (Err TooLong)) (lt-leb (digits_value 10 text) 16777216 (omega (arith, far))))
