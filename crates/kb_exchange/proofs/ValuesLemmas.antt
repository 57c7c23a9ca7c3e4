-- The values behind the tokens that were passed.
use Rattle.std.proofs.Common.{◌≡◌, ◌∙◌, ◌≢◌, ℕ, zero, suc, ◌+◌, ◌<◌, ◌≤◌, List, [], ◌∷◌, ◌++◌, length, drop}
use Rattle.std.proofs.Common.{Bool, true, false, Some, None, Ok, Err, refl, ap, sym, arith, append_assoc, append-nil, eqb, cond, add-one, ◌⊎◌, inl, inr}
use Rattle.std.specs.Prelude.{slice_index, ◌&&◌}
use Rattle.std.proofs.lemmas.Bool.{false_from_ne_true, ne_eqb}
use Rattle.std.proofs.lemmas.List.{drop_all, drop-drop}
use Rattle.std.proofs.Math.Seq.{drop-cons}
use Rattle.std.specs.Str.{is_utf8, IsUtf8}
use Rattle.std.proofs.lemmas.Str.{IsUtf8-from_is_utf8, is_utf8-from_IsUtf8}
use Rattle.kb_base.specs.Blank.{is_blank}
use Rattle.kb_jsonc.specs.declared.fault.JsoncFault.{JsoncFault}
use Rattle.kb_jsonc.specs.Pieces.{string_len}
use Rattle.kb_jsonc.specs.Text.{plain_text}
use Rattle.kb_exchange.specs.declared.members.Before.{Before}
use Rattle.kb_exchange.specs.declared.members.Before.TheVariants as before
use Rattle.kb_places.specs.declared.span.Span.{Span}
use Rattle.kb_exchange.specs.Span.{AreInOrder, span}
use Rattle.kb_exchange.specs.Tokens.{Token, string, sign, tokens_past, tokens_from}
use Rattle.kb_exchange.specs.Values.{behind_byte, is_named, is_value, member_value, next_before, value_behind, values_among}
use Rattle.kb_exchange.specs.Values.{values_behind, values_in, values_of}

-- ---- one token more

past_drop : (n index : ℕ) (bs : List ℕ) → tokens_past n index bs ≡ tokens_past 0 (index + n) (drop n bs)
past_drop zero index bs = let e : index + 0 ≡ index = omega arith in rw e refl
past_drop (suc n) index [] = refl
past_drop (suc n) index (b ∷ bs) =
    let e : index + 1 + n ≡ index + suc n = omega arith in
    past_drop n (index + 1) bs ∙ ap (λ i. tokens_past 0 i (drop n bs)) e

-- the bytes from an index on
first_of : (text : List ℕ) (index : ℕ) → index < length text
    → drop index text ≡ slice_index text index ∷ drop (index + 1) text
first_of text index l = rw add-one (drop-cons text index 0 l)

pub token_blank : (text : List ℕ) (index : ℕ) → index < length text → slice_index text index ≢ 34
    → is_blank (slice_index text index) ≡ true → tokens_from index text ≡ tokens_from (index + 1) text
unfolding tokens_from
token_blank text index l q e = rw (first_of text index l, ne_eqb (slice_index text index) 34 q, e) refl

pub token_sign : (text : List ℕ) (index : ℕ) → index < length text → slice_index text index ≢ 34
    → is_blank (slice_index text index) ≡ false
    → tokens_from index text ≡ sign (slice_index text index) ∷ tokens_from (index + 1) text
unfolding tokens_from
token_sign text index l q e = rw (first_of text index l, ne_eqb (slice_index text index) 34 q, e) refl

pub token_string : (text : List ℕ) (index n : ℕ) → index < length text → slice_index text index ≡ 34
    → string_len (drop (index + 1) text) ≡ Some n
    → tokens_from index text ≡ string (span index (index + 1 + n)) ∷ tokens_from (index + 1 + n) text
unfolding tokens_from
token_string text index n l q e =
    rw (first_of text index l, q, e)
    (ap (λ ts. string (span index (index + 1 + n)) ∷ ts)
    (past_drop n (index + 1) (drop (index + 1) text)
    ∙ ap (tokens_past 0 (index + 1 + n)) (drop-drop n (index + 1) text)))

pub token_open : (text : List ℕ) (index : ℕ) → index < length text → slice_index text index ≡ 34
    → string_len (drop (index + 1) text) ≡ None → tokens_from index text ≡ []
unfolding tokens_from
token_open text index l q e = rw (first_of text index l, q, e) refl

pub token_end : (text : List ℕ) (index : ℕ) → length text ≤ index → tokens_from index text ≡ []
unfolding tokens_from
token_end text index l = rw (drop_all index text l) refl

-- ---- the last tokens tell enough

abbrev pair_state : Token → Token → Before
pair_state a b = next_before (next_before before.Other a) b

colon_or_not : (t : Bool) (name : Span) (c : Token)
    → next_before (cond t (before.Colon name) before.Other) c ≡ next_before before.Other c
colon_or_not true name (string v) = refl
colon_or_not true name (sign b) = refl
colon_or_not false name c = refl

next_pair : (a b c : Token) → next_before (pair_state a b) c ≡ pair_state b c
next_pair (string x) (string y) c = refl
next_pair (string x) (sign b) c = colon_or_not (eqb b 58) x c
next_pair (sign a) (string y) c = refl
next_pair (sign a) (sign b) c = refl

value_if : (named : Span → Bool) (t : Bool) (name value : Span)
    → cond (is_value named (cond t (before.Colon name) before.Other)) (value ∷ []) []
    ≡ cond (t && named name) (value ∷ []) []
value_if named true name value = refl
value_if named false name value = refl

value_pair : (named : Span → Bool) (a b c : Token)
    → value_behind named (pair_state a b) c ≡ member_value named a b c
value_pair named (string x) (string y) (string z) = refl
value_pair named (string x) (string y) (sign c) = refl
value_pair named (string x) (sign b) (string z) = value_if named (eqb b 58) x z
value_pair named (string x) (sign b) (sign c) = refl
value_pair named (sign a) (string y) (string z) = refl
value_pair named (sign a) (string y) (sign c) = refl
value_pair named (sign a) (sign b) (string z) = refl
value_pair named (sign a) (sign b) (sign c) = refl

behind_pair : (named : Span → Bool) (a b : Token) (ts : List Token)
    → values_behind named (pair_state a b) ts ≡ values_among named (a ∷ b ∷ ts)
behind_pair named a b [] = refl
behind_pair named a b (c ∷ ts) =
    ap (λ (last : Before). value_behind named (pair_state a b) c ++ values_behind named last ts) (next_pair a b c)
    ∙ ap (λ (vs : List Span). vs ++ values_behind named (pair_state b c) ts) (value_pair named a b c)
    ∙ ap (λ (vs : List Span). member_value named a b c ++ vs) (behind_pair named b c ts)

none_first : (named : Span → Bool) (t : Token) → value_behind named before.Other t ≡ []
none_first named (string v) = refl
none_first named (sign b) = refl

none_second : (named : Span → Bool) (a b : Token) → value_behind named (next_before before.Other a) b ≡ []
none_second named (string x) (string y) = refl
none_second named (string x) (sign b) = refl
none_second named (sign a) (string y) = refl
none_second named (sign a) (sign b) = refl

pub behind_none : (named : Span → Bool) (ts : List Token)
    → values_behind named before.Other ts ≡ values_among named ts
behind_none named [] = refl
behind_none named (a ∷ []) = ap (λ (vs : List Span). vs ++ []) (none_first named a)
behind_none named (a ∷ b ∷ ts) =
    ap (λ (vs : List Span). vs ++ values_behind named (next_before before.Other a) (b ∷ ts)) (none_first named a)
    ∙ ap (λ (vs : List Span). vs ++ values_behind named (next_before (next_before before.Other a) b) ts)
    (none_second named a b)
    ∙ behind_pair named a b ts

-- ---- the loop

module _ (text : List ℕ) (names : List (List ℕ)) (found : List Span) where
  named : Span → Bool
  named = is_named text names

  pub init : found ≡ [] → found ++ values_behind (is_named text names) before.Other (tokens_from 0 text) ≡ values_in names text
  unfolding values_in
  init e = ap (λ (vs : List Span). vs ++ values_behind (is_named text names) before.Other (tokens_from 0 text)) e
      ∙ behind_none (is_named text names) (tokens_from 0 text)

  module _ (last : Before) (at : ℕ) (within : at < length text) where
    byte_value : (b : ℕ) (ts : List Token) → values_behind (is_named text names) (next_before last (sign b)) ts
        ≡ values_behind (is_named text names) last (sign b ∷ ts)
    byte_value b ts = refl

    told : (t : Bool) → (t ≡ true) ⊎ (t ≡ false)
    told true = inl refl
    told false = inr refl

    pub past_byte : slice_index text at ≢ 34
        → values_behind (is_named text names) (behind_byte last (slice_index text at)) (tokens_from (at + 1) text)
        ≡ values_behind (is_named text names) last (tokens_from at text)
    past_byte q =
        elim (told (is_blank (slice_index text at))) [
          | inl e ↦ rw (e, token_blank text at within q e) refl
          | inr e ↦ rw (e, token_sign text at within q e) refl
        ]

    pub past_open : slice_index text at ≡ 34 → string_len (drop (at + 1) text) ≡ None
        → found ≡ found ++ values_behind (is_named text names) last (tokens_from at text)
    past_open q e = rw (token_open text at within q e) (sym (append-nil found))

    module _ (n : ℕ) (q : slice_index text at ≡ 34) (e : string_len (drop (at + 1) text) ≡ Some n) where
      pub past_value : is_value (is_named text names) last ≡ true
          → (found ++ span at (at + 1 + n) ∷ [])
          ++ values_behind (is_named text names) (before.String (span at (at + 1 + n))) (tokens_from (at + 1 + n) text)
          ≡ found ++ values_behind (is_named text names) last (tokens_from at text)
      past_value v = rw (token_string text at n within q e, v) (append_assoc found (span at (at + 1 + n) ∷ []) _)

      pub past_string : is_value (is_named text names) last ≡ false
          → values_behind (is_named text names) (before.String (span at (at + 1 + n))) (tokens_from (at + 1 + n) text)
          ≡ values_behind (is_named text names) last (tokens_from at text)
      past_string v = rw (token_string text at n within q e, v) refl

  pub past_end : (last : Before) (at : ℕ) → length text ≤ at
      → found ≡ found ++ values_behind (is_named text names) last (tokens_from at text)
  past_end last at l = rw (token_end text at l) (sym (append-nil found))

-- ---- a file

no_text : (text : List ℕ) → ¬ IsUtf8 text → is_utf8 text ≡ false
no_text text h = false_from_ne_true (is_utf8 text) (λ e. h (IsUtf8-from_is_utf8 text e))

pub in_no_text : (names : List (List ℕ)) (file : List ℕ) → ¬ IsUtf8 file → [] ≡ values_of names file
unfolding values_of
in_no_text names file h = rw (no_text file h) refl

pub in_fault : (names : List (List ℕ)) (file : List ℕ) (fault : JsoncFault) → IsUtf8 file
    → plain_text file ≡ Err fault → [] ≡ values_of names file
unfolding values_of
in_fault names file fault h e = rw (is_utf8-from_IsUtf8 file h, e) refl

pub in_plain : (names : List (List ℕ)) (file plain : List ℕ) → IsUtf8 file
    → plain_text file ≡ Ok plain → values_in names plain ≡ values_of names file
unfolding values_of
in_plain names file plain h e = rw (is_utf8-from_IsUtf8 file h, e) refl

pub ruleset in_file = (in_no_text, in_fault, in_plain)

-- ---- in order

pub wider : (from to further : ℕ) (parts : List Span) → AreInOrder from to parts → to ≤ further
    → AreInOrder from further parts
wider from to further [] o l = omega (arith, o, l)
wider from to further (p ∷ ps) o l = (o.0, o.1, wider p.end to further ps o.2 l)

pub one_more : (from to : ℕ) (parts : List Span) (part : Span) → AreInOrder from to parts → to ≤ part.begin
    → part.begin ≤ part.end → AreInOrder from part.end (parts ++ part ∷ [])
one_more from to [] part o l m = (omega (arith, o, l), m, omega arith)
one_more from to (p ∷ ps) part o l m = (o.0, o.1, one_more p.end to ps part o.2 l m)
