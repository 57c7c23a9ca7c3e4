-- Lines of instructions: what is read is in the grammar, and what is in the grammar is read.
use Rattle.std.proofs.Common.{◌≡◌, refl, sym, ap, ◌∙◌, subst, ℕ, ◌<◌, ◌^◌, List, [], ◌∷◌, Bool, true, false, cond}
use Rattle.std.proofs.Common.{length, Option, Some, None, option_and_then, Result, Ok, Err, inl, inr}
use Rattle.std.specs.Prelude.{◌==◌, ◌&&◌, ◌||◌, not, if◌then◌else◌, find, bytes_eq, decimal, IfSome, IfOk, is_some}
use Rattle.std.specs.List.{list_all}
use Rattle.std.proofs.lemmas.Bool.{false≢true}
use Rattle.std.proofs.lemmas.Bool.Decides.{Decides-eqb}
use Rattle.std.proofs.lemmas.Slice.Eq.{bytes_eq-Decides}
use Rattle.kb_base.specs.Reading.{◌>>=◌, seen, or_fault}
use Rattle.kb_code.specs.declared.instr.Instr.{Instr}
use Rattle.kb_code.specs.declared.instr.Instr.TheVariants as i
use Rattle.kb_code.specs.Instr.{operand_of}
use Rattle.kb_assembly.specs.declared.fault.LineFault.{LineFault}
use Rattle.kb_assembly.specs.declared.fault.Mistake.{Mistake}
use Rattle.kb_assembly.specs.declared.fault.Mistake.TheVariants.{UnknownInstruction, BadNumber, MissingQuotes}
use Rattle.kb_assembly.specs.declared.mnemonic.Mnemonic.{Mnemonic}
use Rattle.kb_assembly.specs.declared.mnemonic.Mnemonic.TheVariants as m
use Rattle.kb_assembly.specs.declared.mnemonic.Space.{Space}
use Rattle.kb_assembly.specs.declared.mnemonic.Space.TheVariants as space
use Rattle.kb_assembly.specs.declared.names.Names.{Names}
use Rattle.kb_assembly.specs.declared.words.Word.{Word}
use Rattle.kb_assembly.specs.Mnemonic.{name_of, named, mnemonics, mnemonic_of, instr_with, space_of}
use Rattle.kb_assembly.specs.Names.{number_in, after_hash, is_bare, needs_quotes, found, lack, short, name_in, is_number, chosen}
use Rattle.kb_assembly.specs.Words.{placed, is_plain}
use Rattle.kb_assembly.specs.Line.{bare, hash_in, number_word, named_word, by_hash, fault_at, one_operand, no_operand}
use Rattle.kb_assembly.specs.Line.{operand_in, first_word, instr_of, written_name, written_word, written_operand, written}
use Rattle.kb_assembly.specs.Line.{IsNamed, IsSpelled, IsOperand, IsLine}
use Rattle.kb_assembly.proofs.NumberLemmas.{number_of_decimal, decimal_of_number}

-- ---- names of instructions

found_passes : (test : Mnemonic → Bool) (xs : List Mnemonic) → IfSome (find test xs) (λ x. test x ≡ true)
found_passes test [] = tt
found_passes test (x ∷ xs) = by (test x) refl (found_passes test xs) where
  by : (b : Bool) → test x ≡ b → IfSome (find test xs) (λ y. test y ≡ true) →
      IfSome (cond b (Some x) (find test xs)) (λ y. test y ≡ true)
  by true is rest = is
  by false is rest = rest

pub name_is : (text : List ℕ) (mnemonic : Mnemonic) → named text ≡ Some mnemonic → text ≡ name_of mnemonic
name_is text mnemonic e =
    let p : IfSome (Some mnemonic) (λ x. bytes_eq text (name_of x) ≡ true) =
    subst (λ (o : Option Mnemonic). IfSome o (λ x. bytes_eq text (name_of x) ≡ true)) e
    (found_passes (λ x. bytes_eq text (name_of x)) mnemonics) in
    (bytes_eq-Decides text (name_of mnemonic)).0 p

pub named_itself : (mnemonic : Mnemonic) → named (name_of mnemonic) ≡ Some mnemonic
named_itself m.Return = refl
named_itself m.Text = refl
named_itself m.Num = refl
named_itself m.False = refl
named_itself m.True = refl
named_itself m.Arg = refl
named_itself m.Drop = refl
named_itself m.Dup = refl
named_itself m.Swap = refl
named_itself m.Add = refl
named_itself m.Sub = refl
named_itself m.Less = refl
named_itself m.Same = refl
named_itself m.Not = refl
named_itself m.Join = refl
named_itself m.Show = refl
named_itself m.Size = refl
named_itself m.IsTrue = refl
named_itself m.Number = refl
named_itself m.Jump = refl
named_itself m.JumpIfFalse = refl
named_itself m.Call = refl
named_itself m.Context = refl
named_itself m.Before = refl
named_itself m.After = refl
named_itself m.Repeat = refl
named_itself m.End = refl

operand_same : (names : Names) (words : List Word) (mnemonic : Mnemonic) (n : ℕ) →
    IsOperand names (space_of mnemonic) words n →
    IsOperand names (space_of (mnemonic_of (instr_with mnemonic n))) words (operand_of (instr_with mnemonic n))
operand_same names words m.Return n h = h
operand_same names words mnemonic n h = h

same_name : (mnemonic : Mnemonic) (n : ℕ) → mnemonic_of (instr_with mnemonic n) ≡ mnemonic
same_name m.Return n = refl
same_name mnemonic n = refl

-- the number that an operand is read as
abbrev value : Space → ℕ → ℕ
value space.Nothing n = 0
value _ n = n

with_value : (instr : Instr) →
    instr_with (mnemonic_of instr) (value (space_of (mnemonic_of instr)) (operand_of instr)) ≡ instr
with_value (i.Truth true) = refl
with_value (i.Truth false) = refl
with_value instr = refl

-- ---- operands

sound_one : (read : Word → Result ℕ Mistake) (words : List Word) (n : ℕ) → one_operand read words ≡ Ok n →
    (word : Word) × (words ≡ word ∷ []) × (read word ≡ Ok n)
sound_one read [] n e = absurd (cc)
sound_one read (word ∷ other ∷ words) n e = absurd (cc)
sound_one read (word ∷ []) n e = (word, refl, by (read word) refl e) where
  by : (r : Result ℕ Mistake) → read word ≡ r → placed 1 r ≡ Ok n → r ≡ Ok n
  by (Ok m) is e = let s : m ≡ n = cc in ap (λ k. Ok k) s
  by (Err mistake) is e = absurd (cc)

exact_one : (read : Word → Result ℕ Mistake) (words : List Word) (word : Word) (n : ℕ) → words ≡ word ∷ [] →
    read word ≡ Ok n → one_operand read words ≡ Ok n
exact_one read words word n e is = ap (one_operand read) e ∙ ap (placed 1) is

good_number : (o : Option ℕ) (mistake : Mistake) (n : ℕ) → or_fault mistake o ≡ Ok n → o ≡ Some n
good_number None mistake n e = absurd (cc)
good_number (Some k) mistake n e = let s : k ≡ n = cc in ap Some s

hash_is : (text digits : List ℕ) → after_hash text ≡ Some digits → text ≡ 35 ∷ digits
hash_is [] digits e = absurd (cc)
hash_is (b ∷ bs) digits e = by (b == 35) refl e where
  by : (t : Bool) → (b == 35) ≡ t → (if t then Some bs else None) ≡ Some digits → b ∷ bs ≡ 35 ∷ digits
  by true is e =
      let s : bs ≡ digits = cc in
      ap (λ c. c ∷ bs) ((Decides-eqb b 35).0 is) ∙ ap (λ ds. 35 ∷ ds) s
  by false is e = absurd (cc)

number_word_is : (word : Word) (n : ℕ) → number_word word ≡ Ok n → (word ≡ bare (decimal n)) × (n < 2 ^ 16)
number_word_is word n e = by word.is_quoted refl e where
  by : (q : Bool) → word.is_quoted ≡ q →
      (if q then Err BadNumber else or_fault BadNumber (number_in word.text)) ≡ Ok n →
      (word ≡ bare (decimal n)) × (n < 2 ^ 16)
  by true is e = absurd (cc)
  by false is e =
      let p = decimal_of_number word.text n (good_number (number_in word.text) BadNumber n e) in
      (ap (λ q. record { is_quoted = q; text = word.text }) is ∙ ap bare p.0, p.1)

sound_named : (names : Names) (kind : Space) (word : Word) (n : ℕ) → hash_in word ≡ None →
    named_word names kind word ≡ Ok n → IsNamed names kind word n
sound_named names kind word n hashless e = by (needs_quotes kind) refl word.is_quoted refl e where
  by : (a : Bool) → needs_quotes kind ≡ a → (b : Bool) → word.is_quoted ≡ b →
      (if a && not b then Err MissingQuotes else or_fault (lack (found names kind word.text)) (short (found names kind word.text))) ≡ Ok n →
      IsNamed names kind word n
  by true wants true has e = record {
    no_hash = hashless;
    quotes = λ w. has;
    found = good_number _ (lack (found names kind word.text)) n e;
  }
  by true wants false has e = absurd (cc)
  by false wants b has e = record {
    no_hash = hashless;
    quotes = λ w. absurd (false≢true (sym wants ∙ w));
    found = good_number _ (lack (found names kind word.text)) n e;
  }

sound_hash : (names : Names) (kind : Space) (word : Word) (n : ℕ) →
    by_hash names kind word (hash_in word) ≡ Ok n → IsSpelled names kind word n
sound_hash names kind word n e = by (hash_in word) refl e where
  unquoted : (q : Bool) (digits : List ℕ) → word.is_quoted ≡ q → (if q then None else after_hash word.text) ≡ Some digits →
      word ≡ bare (35 ∷ digits)
  unquoted true digits is e = absurd (cc)
  unquoted false digits is e =
      ap (λ q. record { is_quoted = q; text = word.text }) is ∙ ap bare (hash_is word.text digits e)

  by : (o : Option (List ℕ)) → hash_in word ≡ o → by_hash names kind word o ≡ Ok n → IsSpelled names kind word n
  by (Some digits) is e =
      let p = decimal_of_number digits n (good_number (number_in digits) BadNumber n e) in
      inl (unquoted word.is_quoted digits refl is ∙ ap (λ ds. bare (35 ∷ ds)) p.0, p.1)
  by None is e = inr (sound_named names kind word n is e)

exact_hash : (names : Names) (kind : Space) (word : Word) (n : ℕ) → IsSpelled names kind word n →
    by_hash names kind word (hash_in word) ≡ Ok n
exact_hash names kind word n (inl p) =
    ap (λ w. by_hash names kind w (hash_in w)) p.0 ∙ ap (or_fault BadNumber) (number_of_decimal n p.1)
exact_hash names kind word n (inr is) =
    ap (by_hash names kind word) is.no_hash ∙ by (needs_quotes kind) refl word.is_quoted refl where
      by : (a : Bool) → needs_quotes kind ≡ a → (b : Bool) → word.is_quoted ≡ b →
          (if a && not b then Err MissingQuotes else or_fault (lack (found names kind word.text)) (short (found names kind word.text))) ≡ Ok n
      by true wants true has = ap (or_fault (lack (found names kind word.text))) is.found
      by true wants false has = absurd (false≢true (sym has ∙ is.quotes wants))
      by false wants b has = ap (or_fault (lack (found names kind word.text))) is.found

-- what is read is in the grammar
sound_spelled : (names : Names) (kind : Space) (words : List Word) (n : ℕ) →
    one_operand (λ word. by_hash names kind word (hash_in word)) words ≡ Ok n →
    (word : Word) × (words ≡ word ∷ []) × IsSpelled names kind word n
sound_spelled names kind words n e =
    let p = sound_one (λ word. by_hash names kind word (hash_in word)) words n e in
    (p.0, p.1, sound_hash names kind p.0 n p.2)

sound_operand : (names : Names) (kind : Space) (words : List Word) (n : ℕ) →
    operand_in names kind words ≡ Ok n → IsOperand names kind words n
sound_operand names space.Nothing [] n e = refl
sound_operand names space.Nothing (word ∷ words) n e = absurd (cc)
sound_operand names space.Number words n e =
    let p = sound_one number_word words n e in
    let q = number_word_is p.0 n p.2 in
    (p.1 ∙ ap (λ w. w ∷ []) q.0, q.1)
sound_operand names space.Texts words n e = sound_spelled names space.Texts words n e
sound_operand names space.Keys words n e = sound_spelled names space.Keys words n e
sound_operand names space.Calls words n e = sound_spelled names space.Calls words n e
sound_operand names space.Params words n e = sound_spelled names space.Params words n e
sound_operand names space.Labels words n e = sound_spelled names space.Labels words n e

-- what is in the grammar is read
exact_spelled : (names : Names) (kind : Space) (words : List Word) (n : ℕ) →
    ((word : Word) × (words ≡ word ∷ []) × IsSpelled names kind word n) →
    one_operand (λ word. by_hash names kind word (hash_in word)) words ≡ Ok n
exact_spelled names kind words n p =
    exact_one (λ word. by_hash names kind word (hash_in word)) words p.0 n p.1 (exact_hash names kind p.0 n p.2)

exact_operand : (names : Names) (kind : Space) (words : List Word) (n : ℕ) → IsOperand names kind words n →
    operand_in names kind words ≡ Ok (value kind n)
exact_operand names space.Nothing words n e = ap no_operand e
exact_operand names space.Number words n p =
    exact_one number_word words (bare (decimal n)) n p.0 (ap (or_fault BadNumber) (number_of_decimal n p.1))
exact_operand names space.Texts words n p = exact_spelled names space.Texts words n p
exact_operand names space.Keys words n p = exact_spelled names space.Keys words n p
exact_operand names space.Calls words n p = exact_spelled names space.Calls words n p
exact_operand names space.Params words n p = exact_spelled names space.Params words n p
exact_operand names space.Labels words n p = exact_spelled names space.Labels words n p

-- ---- lines

first_is : (word : Word) (mnemonic : Mnemonic) → first_word word ≡ Ok mnemonic → word ≡ bare (name_of mnemonic)
first_is word mnemonic e = by word.is_quoted refl e where
  known : (o : Option Mnemonic) → or_fault (fault_at 0 UnknownInstruction) o ≡ Ok mnemonic → o ≡ Some mnemonic
  known None e = absurd (cc)
  known (Some k) e = let s : k ≡ mnemonic = cc in ap Some s

  by : (q : Bool) → word.is_quoted ≡ q →
      (if q then Err (fault_at 0 UnknownInstruction) else or_fault (fault_at 0 UnknownInstruction) (named word.text))
      ≡ Ok mnemonic → word ≡ bare (name_of mnemonic)
  by true is e = absurd (cc)
  by false is e =
      ap (λ q. record { is_quoted = q; text = word.text }) is
      ∙ ap bare (name_is word.text mnemonic (known (named word.text) e))

pub in_grammar : (names : Names) (words : List Word) (instr : Instr) → instr_of names words ≡ Ok instr →
    IsLine names words instr
in_grammar names [] instr e = absurd (cc)
in_grammar names (word ∷ operands) instr e = by (first_word word) refl e where
  line : (mnemonic : Mnemonic) (n : ℕ) → first_word word ≡ Ok mnemonic →
      operand_in names (space_of mnemonic) operands ≡ Ok n → IsLine names (word ∷ operands) (instr_with mnemonic n)
  line mnemonic n first operand = record {
    operands = operands;
    first = ap (λ w. w ∷ operands) (first_is word mnemonic first
        ∙ ap (λ k. bare (name_of k)) (sym (same_name mnemonic n)));
    operand = operand_same names operands mnemonic n (sound_operand names (space_of mnemonic) operands n operand);
  }

  then_by : (mnemonic : Mnemonic) → first_word word ≡ Ok mnemonic → (r : Result ℕ LineFault) →
      operand_in names (space_of mnemonic) operands ≡ r → seen (instr_with mnemonic) r ≡ Ok instr →
      IsLine names (word ∷ operands) instr
  then_by mnemonic first (Ok n) is e =
      let s : instr_with mnemonic n ≡ instr = cc in
      subst (IsLine names (word ∷ operands)) s (line mnemonic n first is)
  then_by mnemonic first (Err fault) is e = absurd (cc)

  by : (r : Result Mnemonic LineFault) → first_word word ≡ r →
      (r >>= λ mnemonic. seen (instr_with mnemonic) (operand_in names (space_of mnemonic) operands)) ≡ Ok instr →
      IsLine names (word ∷ operands) instr
  by (Ok mnemonic) is e = then_by mnemonic is (operand_in names (space_of mnemonic) operands) refl e
  by (Err fault) is e = absurd (cc)

pub is_read : (names : Names) (words : List Word) (instr : Instr) → IsLine names words instr →
    instr_of names words ≡ Ok instr
is_read names words instr is =
    let mnemonic = mnemonic_of instr in
    let behind : Mnemonic → Result Instr LineFault =
    λ k. seen (instr_with k) (operand_in names (space_of k) is.operands) in
    ap (instr_of names) is.first
    ∙ ap (λ o. or_fault (fault_at 0 UnknownInstruction) o >>= behind) (named_itself mnemonic)
    ∙ ap (seen (instr_with mnemonic)) (exact_operand names (space_of mnemonic) is.operands (operand_of instr) is.operand)
    ∙ ap (λ k. Ok k) (with_value instr)

-- ---- what is written is read again

no_hash_in : (text : List ℕ) (q : Bool) → q ≡ not (is_bare text) → (if q then None else after_hash text) ≡ None
no_hash_in text true e = refl
no_hash_in text false e = by (not (length text == 0)) (list_all is_plain text) (after_hash text) e where
  by : (a b : Bool) (o : Option (List ℕ)) → false ≡ not (a && b && not (is_some o)) → o ≡ None
  by a b None e = refl
  by true true (Some x) e = absurd (false≢true e)
  by true false (Some x) e = absurd (false≢true e)
  by false b (Some x) e = absurd (false≢true e)

written_named : (names : Names) (kind : Space) (name : List ℕ) (n : ℕ) → short (found names kind name) ≡ Some n →
    IsNamed names kind (written_name kind name) n
written_named names kind name n e = record {
  no_hash = by (needs_quotes kind);
  quotes = λ wants. ap (λ a. a || not (is_bare name)) wants;
  found = e;
}
  where
    by : (a : Bool) → (if a || not (is_bare name) then None else after_hash name) ≡ None
    by true = refl
    by false = no_hash_in name (not (is_bare name)) refl

same_number : (o : Option ℕ) (n : ℕ) → is_number o n ≡ true → o ≡ Some n
same_number None n e = absurd (false≢true e)
same_number (Some k) n e = ap Some ((Decides-eqb k n).0 e)

chosen_stands : (names : Names) (kind : Space) (n : ℕ) (name : List ℕ) → chosen names kind n ≡ Some name →
    short (found names kind name) ≡ Some n
chosen_stands names kind n name e = by (name_in names kind n) e where
  test : (x : List ℕ) (b : Bool) → is_number (short (found names kind x)) n ≡ b → (if b then Some x else None) ≡ Some name →
      short (found names kind name) ≡ Some n
  test x true is e =
      let s : x ≡ name = cc in
      ap (λ t. short (found names kind t)) (sym s) ∙ same_number (short (found names kind x)) n is
  test x false is e = absurd (cc)

  by : (o : Option (List ℕ)) →
      option_and_then (λ name. if is_number (short (found names kind name)) n then Some name else None) o ≡ Some name →
      short (found names kind name) ≡ Some n
  by None e = absurd (cc)
  by (Some x) e = test x (is_number (short (found names kind x)) n) refl e

pub written_spelled : (names : Names) (kind : Space) (n : ℕ) → n < 2 ^ 16 →
    IsSpelled names kind (written_word kind n (chosen names kind n)) n
written_spelled names kind n small = by (chosen names kind n) refl where
  by : (o : Option (List ℕ)) → chosen names kind n ≡ o → IsSpelled names kind (written_word kind n o) n
  by (Some name) is = inr (written_named names kind name n (chosen_stands names kind n name is))
  by None is = inl (refl, small)

written_is : (names : Names) (kind : Space) (n : ℕ) → n < 2 ^ 16 →
    IsOperand names kind (written_operand names kind n) n
written_is names space.Nothing n small = refl
written_is names space.Number n small = (refl, small)
written_is names space.Texts n small = (written_word space.Texts n (chosen names space.Texts n), refl, written_spelled names space.Texts n small)
written_is names space.Keys n small = (written_word space.Keys n (chosen names space.Keys n), refl, written_spelled names space.Keys n small)
written_is names space.Calls n small = (written_word space.Calls n (chosen names space.Calls n), refl, written_spelled names space.Calls n small)
written_is names space.Params n small = (written_word space.Params n (chosen names space.Params n), refl, written_spelled names space.Params n small)
written_is names space.Labels n small = (written_word space.Labels n (chosen names space.Labels n), refl, written_spelled names space.Labels n small)

pub read_again : (names : Names) (instr : Instr) → operand_of instr < 2 ^ 16 →
    instr_of names (written names instr) ≡ Ok instr
read_again names instr small = is_read names (written names instr) instr (record {
  operands = written_operand names (space_of (mnemonic_of instr)) (operand_of instr);
  first = refl;
  operand = written_is names (space_of (mnemonic_of instr)) (operand_of instr) small;
})

-- the same of results
pub grammar_of : (names : Names) (words : List Word) (r : Result Instr LineFault) → r ≡ instr_of names words →
    IfOk r (IsLine names words)
grammar_of names words (Ok instr) e = in_grammar names words instr (sym e)
grammar_of names words (Err fault) e = tt

pub again_of : {E : Type 0} (names : Names) (instr : Instr) (r : Result (List Word) E) →
    IfOk r (λ words. words ≡ written names instr) → IfOk r (λ words. operand_of instr < 2 ^ 16) →
    IfOk r (λ words. instr_of names words ≡ Ok instr)
again_of names instr (Ok words) e small = ap (instr_of names) e ∙ read_again names instr small
again_of names instr (Err memory) e small = tt
