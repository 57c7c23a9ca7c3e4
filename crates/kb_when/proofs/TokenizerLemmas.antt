-- The tokens so far, and those of the remaining characters.
use Rattle.std.proofs.Common.{◌≡◌, ℕ, zero, suc, ◌<◌, ◌≤◌, List, [], ◌∷◌, ◌++◌, Option, Some, None}
use Rattle.std.proofs.Common.{option_map, length, cond, Bool, true, false, refl, sym, ◌∙◌, ap, arith}
use Rattle.std.proofs.Common.{append_assoc, nat_eq, codes, lit<, ◌&&◌}
use Rattle.std.specs.Prelude.{chars, Result, Ok, Err}
use Rattle.kb_when.specs.declared.token.Token.{Token}
use Rattle.kb_when.specs.Characters.{behind, front, ends_word, is_quote, is_no_letter, begins_blank, skipped}
use Rattle.kb_when.specs.Characters.{is_no_blank, behind_sign}
use Rattle.kb_when.specs.Tokenizer.{Read, lex, next_token, next_word, is_like, tokens_of, tokens_within}
use Rattle.kb_when.specs.Tokenizer.{CountSuffices, after_token, unless_empty, sign_or, signs_or, comparisons}
use Rattle.kb_when.specs.Tokenizer.{signs, blank_around, in_class, closes, up_to_close, from_close}
use Rattle.kb_when.specs.Tokenizer.{patterned}
use Rattle.kb_when.specs.Tokenizer.{pattern_or, quoted, quoted_or, word_of}
use Rattle.kb_when.specs.declared.fault.WhenFault.{WhenFault}
use Rattle.kb_when.specs.declared.fault.WhenFault.TheVariants.{BadToken}
use Rattle.kb_base.specs.Reading.{or_fault}

abbrev pub joined : List Token → Option (List Token) → Option (List Token)
joined ts o = option_map (λ us. ts ++ us) o

pub record LexSoFar (all : Option (List Token)) (ts : List Token) (spaced like : Bool)
    (rest : List ℕ) : Type 0 where
  pub fuel : ℕ
  pub enough : length rest < fuel
  pub same : joined ts (lex fuel spaced like rest) ≡ all

cut_length : (b : Bool) (c : ℕ) (cs rest : List ℕ) → length rest ≤ length cs
    → length (cond b (c ∷ cs) rest) ≤ suc (length cs)
cut_length true c cs rest h = omega arith
cut_length false c cs rest h = omega arith

behind_length : (p : ℕ → Bool) (cs : List ℕ) → length (behind p cs) ≤ length cs
behind_length p [] = omega arith
behind_length p (c ∷ cs) = cut_length (p c) c cs (behind p cs) (behind_length p cs)

pub word_shorter : (cs text rest : List ℕ) → text ≡ front ends_word cs → rest ≡ behind ends_word cs
    → (length text ≡ 0 → ⊥) → length rest < length cs
word_shorter [] text rest p q h = absurd (h (ap length p))
word_shorter (c ∷ cs) text rest p q h =
    by (ends_word c) (ap length p) (ap length q) (behind_length ends_word cs) where
      by : (b : Bool) → length text ≡ length (cond b [] (c ∷ front ends_word cs))
          → length rest ≡ length (cond b (c ∷ cs) (behind ends_word cs))
          → length (behind ends_word cs) ≤ length cs → length rest < suc (length cs)
      by true m n l = absurd (h m)
      by false m n l = omega arith

pub skipped_length : (cs : List ℕ) → length (skipped cs) ≤ length cs
skipped_length cs = behind_length is_no_blank cs

abbrev failed : (A : Type 0) → WhenFault → Result A WhenFault
failed A f = Err f

abbrev given : {A : Type 0} → A → Result A WhenFault
given x = Ok x

-- a piece is read where there is one, and where there is none, there is none in the whole
pub a_piece : {A : Type 0} (o : Option A) (x : A) → given x ≡ or_fault BadToken o → o ≡ Some x
a_piece (Some y) x e = cc
a_piece None x e = cc

pub no_piece : {A B : Type 0} (there : Option A) (here : Option B) (f : WhenFault)
    → failed A f ≡ or_fault BadToken there → (there ≡ None → here ≡ None)
    → or_fault BadToken here ≡ failed B f
no_piece {A} {B} None here f e g =
    let p : BadToken ≡ f = cc in ap (or_fault BadToken) (g refl) ∙ ap (failed B) p
no_piece (Some x) here f e g = cc

joined_once : (ts : List Token) (t : Token) (o : Option (List Token))
    → joined ts (option_map (λ us. t ∷ us) o) ≡ joined (ts ++ t ∷ []) o
joined_once ts t None = refl
joined_once ts t (Some us) = ap Some (sym (append_assoc ts (t ∷ []) us))

joined_none : (o : Option (List Token)) → joined [] o ≡ o
joined_none None = refl
joined_none (Some us) = refl

not_empty : (cs : List ℕ) (o : Option (List Token)) → 0 < length cs → unless_empty cs o ≡ o
not_empty [] o h = absurd (omega arith)
not_empty (c ∷ cs) o h = refl

pub lex_begins : (text : List ℕ) (cs : List ℕ) → cs ≡ chars text
    → LexSoFar (tokens_of text) [] (begins_blank cs) false (skipped cs)
unfolding tokens_of tokens_within
lex_begins text cs e = record {
  fuel = suc (length (chars text));
  enough = omega (arith, skipped_length cs, ap length e);
  same = joined_none _
      ∙ ap (λ (x : List ℕ). lex (suc (length (chars text))) (begins_blank x) false (skipped x)) e;
}

module _ (all : Option (List Token)) (ts : List Token) (spaced like : Bool) (rest : List ℕ)
    (some : 0 < length rest) where
  abbrev on : ℕ → Read → Option (List Token)
  on fuel o = after_token o (λ t rest. lex fuel (begins_blank rest) (is_like t) (skipped rest))

  on_by : (fuel : ℕ) (t : Token) (more : List ℕ) → length rest < fuel
      → joined ts (lex fuel spaced like rest) ≡ all → next_token spaced like rest ≡ Some (t, more)
      → length more < length rest → LexSoFar all (ts ++ t ∷ []) (begins_blank more) (is_like t) (skipped more)
  on_by zero t more h e n s = absurd (omega arith)
  on_by (suc fuel) t more h e n s = record {
    fuel = fuel;
    enough = omega (arith, skipped_length more);
    same =
        sym (joined_once ts t (lex fuel (begins_blank more) (is_like t) (skipped more)))
        ∙ ap (λ (o : Read). joined ts (on fuel o)) (sym n)
        ∙ ap (joined ts) (sym (not_empty rest _ some)) ∙ e;
  }

  pub lex_goes_on : (t : Token) (more : List ℕ) → LexSoFar all ts spaced like rest
      → next_token spaced like rest ≡ Some (t, more) → length more < length rest
      → LexSoFar all (ts ++ t ∷ []) (begins_blank more) (is_like t) (skipped more)
  lex_goes_on t more l n s = on_by l.fuel t more l.enough l.same n s

  none_by : (fuel : ℕ) → length rest < fuel → joined ts (lex fuel spaced like rest) ≡ all
      → next_token spaced like rest ≡ None → all ≡ None
  none_by zero h e n = absurd (omega arith)
  none_by (suc fuel) h e n = sym e ∙ ap (joined ts) (not_empty rest _ some ∙ ap (on fuel) n)

  pub lex_fails : LexSoFar all ts spaced like rest → next_token spaced like rest ≡ None → all ≡ None
  lex_fails l n = none_by l.fuel l.enough l.same n

-- ---- the count suffices

-- what was read, or what follows a sign, leaves fewer characters
abbrev IsShorter : ℕ → Read → Type 0
IsShorter n None = Unit {0}
IsShorter n (Some p) = length p.1 < n

abbrev LeavesFewer : ℕ → Option (List ℕ) → Type 0
LeavesFewer n None = Unit {0}
LeavesFewer n (Some rest) = length rest < n

if_fewer : (b : Bool) (n : ℕ) (o : Option (List ℕ)) → LeavesFewer n o → LeavesFewer n (cond b o None)
if_fewer true n o h = h
if_fewer false n o h = tt

one_fewer : (n : ℕ) (o : Option (List ℕ)) → LeavesFewer n o → LeavesFewer (suc n) o
one_fewer n None h = tt
one_fewer n (Some rest) h = omega arith

sign_fewer : (sign cs : List ℕ) → LeavesFewer (suc (length cs)) (behind_sign sign cs)
sign_fewer [] cs = omega arith
sign_fewer (s ∷ sign) [] = tt
sign_fewer (s ∷ sign) (c ∷ cs) =
    if_fewer (nat_eq s c) (suc (suc (length cs))) (behind_sign sign cs)
    (one_fewer (suc (length cs)) (behind_sign sign cs) (sign_fewer sign cs))

sign_shorter : (sign cs : List ℕ) → 0 < length sign → LeavesFewer (length cs) (behind_sign sign cs)
sign_shorter [] cs h = absurd (omega arith)
sign_shorter (s ∷ sign) [] h = tt
sign_shorter (s ∷ sign) (c ∷ cs) h =
    if_fewer (nat_eq s c) (suc (length cs)) (behind_sign sign cs) (sign_fewer sign cs)

blank_fewer : (spaced : Bool) (n : ℕ) (o : Option (List ℕ)) → LeavesFewer n o
    → LeavesFewer n (blank_around spaced o)
blank_fewer spaced n None h = tt
blank_fewer spaced n (Some rest) h = if_fewer (spaced && begins_blank rest) n (Some rest) h

sign_or_shorter : (n : ℕ) (o : Option (List ℕ)) (t : Token) (later : Read) → LeavesFewer n o
    → IsShorter n later → IsShorter n (sign_or o t later)
sign_or_shorter n None t later h k = k
sign_or_shorter n (Some rest) t later h k = h

-- no sign is empty
abbrev AreLong : List (List ℕ × Token) → Type 0
AreLong [] = Unit {0}
AreLong (p ∷ all) = (0 < length p.0) × AreLong all

signs_or_shorter : (n : ℕ) (found : List ℕ → Option (List ℕ)) (all : List (List ℕ × Token)) (later : Read)
    → ((sign : List ℕ) → 0 < length sign → LeavesFewer n (found sign)) → AreLong all → IsShorter n later
    → IsShorter n (signs_or found all later)
signs_or_shorter n found [] later f h k = k
signs_or_shorter n found (p ∷ all) later f h k =
    sign_or_shorter n (found p.0) p.1 (signs_or found all later) (f p.0 h.0)
    (signs_or_shorter n found all later f h.1 k)

close_length : (escaped inside : Bool) (cs : List ℕ) → length (from_close escaped inside cs) ≤ length cs
close_length escaped inside [] = omega arith
close_length true inside (c ∷ cs) = let le : length (from_close false inside cs) ≤ length cs =
    close_length false inside cs in omega arith
close_length false inside (c ∷ cs) =
    by (nat_eq c 92) (closes inside c) (close_length true inside cs)
    (close_length false (in_class inside c) cs)
  where
    by : (b d : Bool) → length (from_close true inside cs) ≤ length cs
        → length (from_close false (in_class inside c) cs) ≤ length cs
        → length (cond b (from_close true inside cs)
        (cond d (c ∷ cs) (from_close false (in_class inside c) cs))) ≤ suc (length cs)
    by true d h k = omega arith
    by false true h k = omega arith
    by false false h k = omega arith

patterned_shorter : (n : ℕ) (text rest : List ℕ) → length rest ≤ n → IsShorter n (patterned text rest)
patterned_shorter n text [] h = tt
patterned_shorter n text (c ∷ rest) h = omega (arith, behind_length is_no_letter rest)

pattern_or_shorter : (like : Bool) (n : ℕ) (o : Option (List ℕ)) (later : Read) → LeavesFewer n o
    → IsShorter n later → IsShorter n (pattern_or like o later)
pattern_or_shorter true n None later h k = k
pattern_or_shorter true n (Some rest) later h k =
    patterned_shorter n (up_to_close false false rest) (from_close false false rest)
    (omega (arith, close_length false false rest))
pattern_or_shorter false n o later h k = k

quoted_shorter : (n : ℕ) (text rest : List ℕ) → length rest ≤ n → IsShorter n (quoted text rest)
quoted_shorter n text [] h = tt
quoted_shorter n text (c ∷ rest) h = omega arith

quoted_or_shorter : (n : ℕ) (o : Option (List ℕ)) (later : Read) → LeavesFewer n o → IsShorter n later
    → IsShorter n (quoted_or o later)
quoted_or_shorter n None later h k = k
quoted_or_shorter n (Some rest) later h k =
    quoted_shorter n (front is_quote rest) (behind is_quote rest) (omega (arith, behind_length is_quote rest))

next_word_shorter : (cs : List ℕ) → IsShorter (length cs) (next_word cs)
next_word_shorter [] = tt
next_word_shorter (c ∷ cs) = by (ends_word c) where
  by : (b : Bool) → IsShorter (suc (length cs))
      (word_of (cond b [] (c ∷ front ends_word cs)) (cond b (c ∷ cs) (behind ends_word cs)))
  by true = tt
  by false = omega (arith, behind_length ends_word cs)

next_token_shorter : (spaced like : Bool) (cs : List ℕ) → IsShorter (length cs) (next_token spaced like cs)
next_token_shorter spaced like cs =
    signs_or_shorter (length cs) _ comparisons _
    (λ sign h. blank_fewer spaced (length cs) (behind_sign sign cs) (sign_shorter sign cs h))
    (lit< tt, (lit< tt, (lit< tt, (lit< tt, tt))))
    (signs_or_shorter (length cs) (λ sign. behind_sign sign cs) signs
    (pattern_or like (behind_sign (codes "/") cs)
    (quoted_or (behind_sign (codes "'") cs) (next_word cs))) (λ sign h. sign_shorter sign cs h) (
      lit< tt,
      (
        lit< tt,
        (
          lit< tt,
          (lit< tt, (lit< tt, (lit< tt, (lit< tt, (lit< tt, (lit< tt, (lit< tt, tt))))))),
        ),
      ),
    )
    (pattern_or_shorter like (length cs) (behind_sign (codes "/") cs)
    (quoted_or (behind_sign (codes "'") cs) (next_word cs)) (sign_shorter (codes "/") cs (lit< tt))
    (quoted_or_shorter (length cs) (behind_sign (codes "'") cs) (next_word cs)
    (sign_shorter (codes "'") cs (lit< tt)) (next_word_shorter cs))))

lex_same : (n m : ℕ) (spaced like : Bool) (cs : List ℕ) → length cs < n → length cs < m
    → lex n spaced like cs ≡ lex m spaced like cs
lex_same zero m spaced like cs h k = absurd (omega arith)
lex_same (suc n) zero spaced like cs h k = absurd (omega arith)
lex_same (suc n) (suc m) spaced like [] h k = refl
lex_same (suc n) (suc m) spaced like (c ∷ cs) h k =
    by (next_token spaced like (c ∷ cs)) (next_token_shorter spaced like (c ∷ cs))
    (λ s l rest lt. lex_same n m s l rest (omega arith) (omega arith))
  where
    by : (r : Read) → IsShorter (suc (length cs)) r
        → ((s l : Bool) (rest : List ℕ) → length rest < suc (length cs) → lex n s l rest ≡ lex m s l rest)
        → after_token r (λ t rest. lex n (begins_blank rest) (is_like t) (skipped rest))
        ≡ after_token r (λ t rest. lex m (begins_blank rest) (is_like t) (skipped rest))
    by None h f = refl
    by (Some p) h f = ap (option_map (λ ts. p.0 ∷ ts))
        (f (begins_blank p.1) (is_like p.0) (skipped p.1) (omega (arith, skipped_length p.1)))

-- there are no more tokens than characters
pub count_suffices : (text : List ℕ) → CountSuffices text
unfolding tokens_of tokens_within
count_suffices text count h =
    lex_same count (suc (length (chars text))) (begins_blank (chars text)) false (skipped (chars text))
    (omega (arith, skipped_length (chars text))) (omega (arith, skipped_length (chars text)))
