-- Texts that JSON with comments reads as they are.
use Rattle.std.proofs.Common.{◌≡◌, arith, subst, ℕ, ℤ, pos, negsuc, suc, ◌+◌, ◌-◌, ◌<◌, ◌≤◌, ◌^◌, Bool, true, false, ◌&&◌, not}
use Rattle.std.proofs.Common.{List, [], ◌∷◌, ◌++◌, map, length, take, Option, Some, None, Result, Ok, refl, sym, ap, ◌∙◌}
use Rattle.std.proofs.Common.{option_map, option_and_then}
use Rattle.std.specs.Prelude.{◌==◌, nat_lt, decimal, if◌then◌else◌}
use Rattle.std.proofs.Math.Seq.{take-length}
use Rattle.std.proofs.lemmas.Bool.{ne_eqb, lt-ltb, not-true}
use Rattle.std.proofs.lemmas.List.{append-nil}
use Rattle.std.proofs.lemmas.Fmt.{decimal_is_IsNumeral}
use Rattle.std.proofs.lemmas.Str.Parse.{digit_at}
use Rattle.std.specs.Str.Parse.{AllDigits}
use Rattle.std.specs.Fmt.{signed_decimal}
use Rattle.std.specs.List.{list_all, AllByRecursion}
use Rattle.std.specs.Str.{IsUtf8}
use Rattle.std.proofs.lemmas.Bool.Decides.{nat_tests}
use Rattle.std.proofs.lemmas.Str.{is_utf8-from_IsUtf8}
use lib.Signed.{mag}
use Rattle.json.specs.Json as json
use Rattle.kb_jsonc.specs.declared.fault.JsoncFault.TheVariants.{OpenString}
use Rattle.json.specs.Print.{escape, print_from, ArePrintable}
use Rattle.json.specs.Token as token
use Rattle.json.specs.Token.{Token}
use Rattle.json.proofs.Printed.Tokens.{tokens-print}
use Rattle.json.proofs.Printed.Strings.{escape_byte_plain}
use Rattle.json.proofs.Printed.Decimals.{IsNumber-signed_decimal}
use Rattle.serde_json.specs.Data.{Data, Num, unsigned, negative, number, string}
use Rattle.serde_json.specs.Read as json_value
use Rattle.serde_json.specs.Read.{read, of_json}
use Rattle.serde_json.specs.Find.{as_i64}
use Rattle.serde_json.proofs.Numbers.{number_of-decimal, number_of-negative}
use Rattle.kb_base.specs.Blank.{is_blank}
use Rattle.kb_base.specs.Reading.{◌>>=◌, or_fault}
use Rattle.kb_jsonc.specs.Pieces.{quoted, single, bytes_of, first_piece, pieces, pieces_past, string_len}
use Rattle.kb_jsonc.specs.Reader.{value_of, plain_value, without_mark}
use Rattle.kb_jsonc.specs.Text.{plain_of, plain_text}
use Rattle.kb_context.specs.declared.value.ContextValue.TheVariants.{Number, Text}
use Rattle.kb_base.specs.Refusal.{refusing}
use Rattle.kb_base.specs.declared.refusal.Refusal.{Refusal}
use Rattle.kb_context.specs.declared.value.ContextValue.{ContextValue}
use Rattle.kb_jsonc.specs.FileFault.{kind_of}
use Rattle.kb_jsonc.specs.declared.file_fault.FileFault.TheVariants.{WrongShape}
use Rattle.kb_jsonc.specs.declared.fault.JsoncFault.{JsoncFault}
use Rattle.kb_jsonc.specs.Fault as jsonc
use Rattle.kb_layout.specs.Context.{context_of}
use Rattle.kb_files.specs.Context.{context_in}
use Rattle.kb_files.specs.PlainValue.{is_plain}

-- ---- texts without strings, comments and commas

abbrev pub IsBare : ℕ → Type 0
IsBare b = ((b == 34) ≡ false) × (((b == 47) ≡ false) × ((b == 44) ≡ false))

bare_piece : (b : ℕ) (bs : List ℕ) → IsBare b → first_piece b bs ≡ Ok (single b)
unfolding first_piece
bare_piece b bs bare = rw (bare.0, bare.1.0) refl

bare_pieces : (bs : List ℕ) → AllByRecursion IsBare bs → pieces bs ≡ Ok (map single bs)
bare_pieces [] bare = refl
bare_pieces (b ∷ bs) bare =
    rw (bare_piece b bs bare.0) (ap (λ ps. ps >>= λ rest. Ok (single b ∷ rest)) (bare_pieces bs bare.1))

bare_plain : (bs : List ℕ) → AllByRecursion IsBare bs → (before : Option ℕ) → plain_of before (map single bs) ≡ bs
bare_plain [] bare before = refl
bare_plain (b ∷ bs) bare before = rw (bare.0.1.1) (ap (λ (l : List ℕ). b ∷ l) (bare_plain bs bare.1 (if is_blank b then before else Some b)))

bare_text : (bs : List ℕ) → AllByRecursion IsBare bs → plain_text bs ≡ Ok bs
unfolding plain_text
bare_text bs bare = ap (λ r. r >>= λ ps. Ok (plain_of None ps)) (bare_pieces bs bare) ∙ ap Ok (bare_plain bs bare None)

-- ---- texts between quotes

and_left : (a b : Bool) → (a && b) ≡ true → a ≡ true
and_left true b h = refl
and_left false b h = h

and_right : (a b : Bool) → (a && b) ≡ true → b ≡ true
and_right true b h = h
and_right false true h = refl
and_right false false h = h

pub record Plain (b : ℕ) : Type 0 where
  pub no_quote : (b == 34) ≡ false
  pub no_backslash : (b == 92) ≡ false
  pub no_control : nat_lt b 32 ≡ false

plain_byte : (b : ℕ) → is_plain b ≡ true → Plain b
plain_byte b h =
    let rest = and_right (not (nat_lt b 32)) (not (b == 34) && not (b == 92)) h in record {
      no_quote = not-true (b == 34) (and_left (not (b == 34)) (not (b == 92)) rest);
      no_backslash = not-true (b == 92) (and_right (not (b == 34)) (not (b == 92)) rest);
      no_control = not-true (nat_lt b 32) (and_left (not (nat_lt b 32)) (not (b == 34) && not (b == 92)) h);
    }

abbrev AllPlain : List ℕ → Type 0
AllPlain s = AllByRecursion Plain s

all_plain : (s : List ℕ) → list_all is_plain s ≡ true → AllPlain s
all_plain [] h = tt
all_plain (b ∷ s) h =
    (plain_byte b (and_left (is_plain b) (list_all is_plain s) h), all_plain s (and_right (is_plain b) (list_all is_plain s) h))

one_more : (n : ℕ) → n + 1 ≡ suc n
one_more n = omega arith

one_less : (n : ℕ) → suc n - 1 ≡ n
one_less n = omega arith

string_ends : (s : List ℕ) → AllPlain s → string_len (s ++ 34 ∷ []) ≡ Some (length (s ++ 34 ∷ []))
string_ends [] plain = refl
string_ends (b ∷ []) plain = rw (plain.0.no_quote, plain.0.no_backslash) refl
string_ends (b ∷ c ∷ s) plain =
    rw (plain.0.no_quote, plain.0.no_backslash) (ap (option_map (λ n. n + 1)) (string_ends (c ∷ s) plain.1)
    ∙ ap Some (one_more (length (c ∷ (s ++ 34 ∷ [])))))

none_past : (bs : List ℕ) → pieces_past (length bs) bs ≡ Ok []
none_past [] = refl
none_past (b ∷ bs) = none_past bs

quoted_piece : (s : List ℕ) → AllPlain s → first_piece 34 (s ++ 34 ∷ []) ≡ Ok (quoted (34 ∷ (s ++ 34 ∷ [])))
unfolding first_piece
quoted_piece s plain =
    ap (λ n. or_fault OpenString (option_map (λ k. quoted (34 ∷ take k (s ++ 34 ∷ []))) n)) (string_ends s plain)
    ∙ ap (λ (l : List ℕ). Ok (quoted (34 ∷ l))) (take-length (s ++ 34 ∷ []))

quoted_pieces : (s : List ℕ) → AllPlain s → pieces (34 ∷ (s ++ 34 ∷ [])) ≡ Ok (quoted (34 ∷ (s ++ 34 ∷ [])) ∷ [])
quoted_pieces s plain =
    ap (λ r. r >>= λ p. pieces_past (length (bytes_of p) - 1) (s ++ 34 ∷ []) >>= λ ps. Ok (p ∷ ps)) (quoted_piece s plain)
    ∙ ap (λ n. pieces_past n (s ++ 34 ∷ []) >>= λ ps. Ok (quoted (34 ∷ (s ++ 34 ∷ [])) ∷ ps)) (one_less (length (s ++ 34 ∷ [])))
    ∙ ap (λ r. r >>= λ ps. Ok (quoted (34 ∷ (s ++ 34 ∷ [])) ∷ ps)) (none_past (s ++ 34 ∷ []))

quoted_text : (s : List ℕ) → AllPlain s → plain_text (34 ∷ (s ++ 34 ∷ [])) ≡ Ok (34 ∷ (s ++ 34 ∷ []))
unfolding plain_text
quoted_text s plain =
    ap (λ r. r >>= λ ps. Ok (plain_of None ps)) (quoted_pieces s plain) ∙ ap (λ l. Ok (34 ∷ l)) (append-nil (s ++ 34 ∷ []))

is_not : (b c : ℕ) → (b == c) ≡ false → b ≡ c → ⊥
is_not b c off e = grind (arith, nat_tests)

is_large : (b : ℕ) → nat_lt b 32 ≡ false → 32 ≤ b
is_large b off = grind (arith, nat_tests)

escape_plain : (s : List ℕ) → AllPlain s → escape s ≡ s
escape_plain [] plain = refl
escape_plain (b ∷ s) plain =
    ap (λ (l : List ℕ). l ++ escape s) (escape_byte_plain b (is_not b 34 plain.0.no_quote) (is_not b 92 plain.0.no_backslash) (is_large b plain.0.no_control))
    ∙ ap (λ (l : List ℕ). b ∷ l) (escape_plain s plain.1)

abbrev read_tokens : List Token → Option Data
read_tokens ts = option_and_then of_json (option_and_then (λ p. json.if_last p.0 p.1) (json.value 127 ts))

read_string : (s : List ℕ) → AllPlain s → read (34 ∷ (s ++ 34 ∷ [])) ≡ Some (string s)
unfolding print_from ArePrintable json.value
read_string s plain =
    let text = append-nil (34 ∷ (s ++ 34 ∷ [])) in
    ap read (sym (ap (λ (l : List ℕ). (34 ∷ (l ++ 34 ∷ [])) ++ []) (escape_plain s plain) ∙ text))
    ∙ ap read_tokens (tokens-print (token.string s ∷ []) (tt, tt))

read_number : (z : ℤ) → mag z < 2 ^ 63 → read (signed_decimal z) ≡ option_map number (json_value.number_of (signed_decimal z))
unfolding print_from ArePrintable json_value.number_of json.value
read_number z small =
    ap read (sym (append-nil (signed_decimal z)))
    ∙ ap read_tokens (tokens-print (token.number (signed_decimal z) ∷ []) (IsNumber-signed_decimal z small, tt))

value_utf8 : (text plain : List ℕ) (d : Data) → IsUtf8 text → without_mark text ≡ text → plain_text text ≡ Ok text
    → list_all is_blank text ≡ false → read text ≡ Some d → value_of text ≡ Ok d
unfolding value_of plain_value
value_utf8 text plain d utf8 mark same blank is =
    rw (is_utf8-from_IsUtf8 text utf8, mark, same, blank, is) refl

no_mark : (b : ℕ) (bs : List ℕ) → (b == 0xEF) ≡ false → without_mark (b ∷ bs) ≡ b ∷ bs
no_mark b [] off = refl
no_mark b (c ∷ []) off = refl
no_mark b (c ∷ d ∷ bs) off = rw off refl

quoted_value : (s : List ℕ) → list_all is_plain s ≡ true → IsUtf8 (34 ∷ (s ++ 34 ∷ []))
    → value_of (34 ∷ (s ++ 34 ∷ [])) ≡ Ok (string s)
quoted_value s plain utf8 =
    let all = all_plain s plain in
    let text = 34 ∷ (s ++ 34 ∷ []) in
    value_utf8 text text (string s) utf8 (no_mark 34 (s ++ 34 ∷ []) refl) (quoted_text s all) refl (read_string s all)

-- ---- numbers

abbrev IsDigit : ℕ → Type 0
IsDigit b = (48 ≤ b) × (b ≤ 57)

all_digits : (ds : List ℕ) → AllDigits 10 ds → AllByRecursion IsDigit ds
all_digits [] all = tt
all_digits (d ∷ ds) all = (digit_at (d ∷ ds) 0 all (omega arith), all_digits ds all.1)

bare_digit : (d : ℕ) → IsDigit d → IsBare d
bare_digit d digit = (
  ne_eqb d 34 (λ e. omega arith),
  (ne_eqb d 47 (λ e. omega arith), ne_eqb d 44 (λ e. omega arith)),
)

bare_digits : (ds : List ℕ) → AllByRecursion IsDigit ds → AllByRecursion IsBare ds
bare_digits [] all = tt
bare_digits (d ∷ ds) all = (bare_digit d all.0, bare_digits ds all.1)

-- what begins a number is no byte order mark, and isn't blank
pub record BeginsNumber (text : List ℕ) : Type 0 where
  pub unmarked : without_mark text ≡ text
  pub shown : list_all is_blank text ≡ false

begins_digits : (ds : List ℕ) → AllByRecursion IsDigit ds → 0 < length ds → BeginsNumber ds
begins_digits [] all some = absurd (omega arith)
begins_digits (d ∷ ds) all some =
    let digit = all.0 in record {
      unmarked = no_mark d ds (ne_eqb d 0xEF (λ e. omega arith));
      shown = rw (ne_eqb d 32 (λ e. omega arith), ne_eqb d 9 (λ e. omega arith), ne_eqb d 13 (λ e. omega arith), ne_eqb d 10 (λ e. omega arith)) refl;
    }

abbrev pub num_of : ℤ → Num
num_of (pos n) = unsigned n
num_of (negsuc n) = negative (negsuc n)

number_is : (z : ℤ) → mag z < 2 ^ 63 → json_value.number_of (signed_decimal z) ≡ Some (num_of z)
number_is (pos n) small = number_of-decimal n (omega arith)
number_is (negsuc n) small = number_of-negative n small

bare_number : (z : ℤ) → mag z < 2 ^ 63 → AllByRecursion IsBare (signed_decimal z)
bare_number (pos n) small = bare_digits (decimal n) (all_digits (decimal n) (decimal_is_IsNumeral n (omega arith)).0.1)
bare_number (negsuc n) small =
    ((refl, (refl, refl)), bare_digits (decimal (suc n)) (all_digits (decimal (suc n)) (decimal_is_IsNumeral (suc n) (omega arith)).0.1))

begins_number : (z : ℤ) → mag z < 2 ^ 63 → BeginsNumber (signed_decimal z)
begins_number (pos n) small =
    let numeral = (decimal_is_IsNumeral n (omega arith)).0 in
    begins_digits (decimal n) (all_digits (decimal n) numeral.1) numeral.0
begins_number (negsuc n) small = record { unmarked = no_mark 45 (decimal (suc n)) refl; shown = refl }

number_value : (z : ℤ) → mag z < 2 ^ 63 → IsUtf8 (signed_decimal z) → value_of (signed_decimal z) ≡ Ok (number (num_of z))
number_value z small utf8 =
    let text = signed_decimal z in
    let begins = begins_number z small in
    value_utf8 text text (number (num_of z)) utf8 begins.unmarked (bare_text text (bare_number z small)) begins.shown
    (read_number z small ∙ ap (option_map number) (number_is z small))

-- ---- context values

abbrev context_by : Result Data JsoncFault → Result ContextValue Refusal
context_by r = refusing jsonc.kind_of r >>= (λ d. refusing kind_of (context_of d))

pub quoted_read : (text s : List ℕ) → text ≡ 34 ∷ (s ++ 34 ∷ []) → list_all is_plain s ≡ true → IsUtf8 text
    → context_in text ≡ Ok (Text s)
quoted_read text s is plain utf8 = ap context_in is ∙ ap context_by (quoted_value s plain (subst IsUtf8 is utf8))

as_read : (z : ℤ) → mag z < 2 ^ 63 → as_i64 (num_of z) ≡ Some z
as_read (pos n) small = rw (lt-ltb n (2 ^ 63) small) refl
as_read (negsuc n) small = refl

pub number_read : (text : List ℕ) (z : ℤ) → text ≡ signed_decimal z → mag z < 2 ^ 63 → IsUtf8 text
    → context_in text ≡ Ok (Number z)
number_read text z is small utf8 =
    ap context_in is ∙ ap context_by (number_value z small (subst IsUtf8 is utf8))
    ∙ ap (λ o. refusing kind_of (or_fault WrongShape (option_map Number o))) (as_read z small)

pub ruleset reading = (number_read, quoted_read)
