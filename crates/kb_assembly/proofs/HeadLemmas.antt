-- The lines of a head: what is read is in the grammar, and what is in the grammar is read.
use Rattle.std.proofs.Common.{◌≡◌, refl, sym, ap, ◌∙◌, subst, ℕ, ◌+◌, ◌<◌, ◌≤◌, ◌^◌, List, [], ◌∷◌, ◌++◌, Bool, true, false, cond}
use Rattle.std.proofs.Common.{Option, Some, None, Result, Ok, Err, arith}
use Rattle.std.specs.Prelude.{if◌then◌else◌, find, bytes_eq, decimal, codes, nat_lt, IfSome, IfOk}
use Rattle.std.proofs.lemmas.Bool.{ltb-true, ltb-false}
use Rattle.std.proofs.lemmas.Slice.Eq.{bytes_eq-Decides}
use Rattle.kb_base.specs.declared.failure.Failure.{Failure}
use Rattle.kb_base.specs.Failure.{Gives}
use Rattle.kb_base.specs.Reading.{◌>>=◌, seen, or_fault}
use Rattle.kb_core.specs.declared.arg.Kind.{Kind}
use Rattle.kb_core.specs.declared.arg.Kind.TheVariants as kd
use Rattle.kb_core.specs.declared.parameter.Param.{Param}
use Rattle.kb_assembly.specs.declared.code.TextFault.{TextFault}
use Rattle.kb_assembly.specs.declared.fault.LineFault.{LineFault}
use Rattle.kb_assembly.specs.declared.fault.Mistake.{Mistake}
use Rattle.kb_assembly.specs.declared.fault.Mistake.TheVariants.{UnknownInstruction, MissingQuotes, OutOfPlace, BadKind, BadLimit}
use Rattle.kb_assembly.specs.declared.head.Directive.{Directive}
use Rattle.kb_assembly.specs.declared.head.Directive.TheVariants as d
use Rattle.kb_assembly.specs.declared.head.Entry.{Entry}
use Rattle.kb_assembly.specs.declared.head.Entry.TheVariants as en
use Rattle.kb_assembly.specs.declared.head.Head.{Head}
use Rattle.kb_assembly.specs.declared.words.Word.{Word}
use Rattle.kb_assembly.specs.Code.{in_line, is_head}
use Rattle.kb_assembly.specs.Head.{directives, directive_name, directive_named, directive_in, kinds, kind_name, kind_named}
use Rattle.kb_assembly.specs.Head.{only, wide_word, kind_word, quoted_text, limit_in, param_in, text_in, call_in}
use Rattle.kb_assembly.specs.Head.{entry_with, entry_of, no_head, rank_of, added, taken, past_head, head_step, heads_from, quoted}
use Rattle.kb_assembly.specs.Head.{IsEntry, param_entry, budget_entry, depth_entry, text_entry, call_entry}
use Rattle.kb_assembly.specs.Head.{IsHead, head_end, head_blank, head_entry, head_code}
use Rattle.kb_assembly.specs.Line.{bare, fault_at}
use Rattle.kb_assembly.specs.Names.{wide_in}
use Rattle.kb_assembly.specs.Words.{placed}
use Rattle.kb_assembly.proofs.WideLemmas.{number_of_decimal, decimal_of_number}

-- ---- names

found_passes : {A : Type 0} (test : A → Bool) (xs : List A) → IfSome (find test xs) (λ x. test x ≡ true)
found_passes test [] = tt
found_passes test (x ∷ xs) = by (test x) refl (found_passes test xs) where
  by : (b : Bool) → test x ≡ b → IfSome (find test xs) (λ y. test y ≡ true) →
      IfSome (cond b (Some x) (find test xs)) (λ y. test y ≡ true)
  by true is rest = is
  by false is rest = rest

directive_is : (text : List ℕ) (x : Directive) → directive_named text ≡ Some x → text ≡ directive_name x
directive_is text x is =
    let p : IfSome (Some x) (λ y. bytes_eq text (directive_name y) ≡ true) =
    subst (λ (o : Option Directive). IfSome o (λ y. bytes_eq text (directive_name y) ≡ true)) is
    (found_passes (λ y. bytes_eq text (directive_name y)) directives) in
    (bytes_eq-Decides text (directive_name x)).0 p

kind_is : (text : List ℕ) (k : Kind) → kind_named text ≡ Some k → text ≡ kind_name k
kind_is text k is =
    let p : IfSome (Some k) (λ y. bytes_eq text (kind_name y) ≡ true) =
    subst (λ (o : Option Kind). IfSome o (λ y. bytes_eq text (kind_name y) ≡ true)) is
    (found_passes (λ y. bytes_eq text (kind_name y)) kinds) in
    (bytes_eq-Decides text (kind_name k)).0 p

kind_itself : (k : Kind) → kind_named (kind_name k) ≡ Some k
kind_itself kd.Text = refl
kind_itself kd.Number = refl
kind_itself kd.Truth = refl
kind_itself kd.Any = refl

-- ---- words

good : {A F : Type 0} (o : Option A) (fault : F) (x : A) → or_fault fault o ≡ Ok x → o ≡ Some x
good None fault x is = absurd (cc)
good (Some y) fault x is = let s : y ≡ x = cc in ap Some s

good_place : {A : Type 0} (at : ℕ) (r : Result A Mistake) (x : A) → placed at r ≡ Ok x → r ≡ Ok x
good_place at (Ok y) x is = let s : y ≡ x = cc in ap (λ k. Ok k) s
good_place at (Err mistake) x is = absurd (cc)

-- a word without quotes
unquoted : (word : Word) (text : List ℕ) → word.is_quoted ≡ false → word.text ≡ text → word ≡ bare text
unquoted word text is same = ap (λ q. record { is_quoted = q; text = word.text }) is ∙ ap bare same

wide_is : (word : Word) (n : ℕ) → wide_word word ≡ Ok n → (word ≡ bare (decimal n)) × (n < 2 ^ 32)
wide_is word n is = by word.is_quoted refl is where
  by : (q : Bool) → word.is_quoted ≡ q → (if q then Err BadLimit else or_fault BadLimit (wide_in word.text)) ≡ Ok n →
      (word ≡ bare (decimal n)) × (n < 2 ^ 32)
  by true q is = absurd (cc)
  by false q is =
      let p = decimal_of_number word.text n (good (wide_in word.text) BadLimit n is) in
      (unquoted word (decimal n) q p.0, p.1)

kind_word_is : (word : Word) (k : Kind) → kind_word word ≡ Ok k → word ≡ bare (kind_name k)
kind_word_is word k is = by word.is_quoted refl is where
  by : (q : Bool) → word.is_quoted ≡ q → (if q then Err BadKind else or_fault BadKind (kind_named word.text)) ≡ Ok k →
      word ≡ bare (kind_name k)
  by true q is = absurd (cc)
  by false q is = unquoted word (kind_name k) q (kind_is word.text k (good (kind_named word.text) BadKind k is))

quoted_is : (word : Word) (text : List ℕ) → quoted_text word ≡ Ok text → word ≡ quoted text
quoted_is word text is = by word.is_quoted refl is where
  by : (q : Bool) → word.is_quoted ≡ q → (if q then Ok word.text else Err MissingQuotes) ≡ Ok text → word ≡ quoted text
  by true q is =
      let s : word.text ≡ text = cc in
      ap (λ q. record { is_quoted = q; text = word.text }) q ∙ ap quoted s
  by false q is = absurd (cc)

directive_in_is : (word : Word) (x : Directive) → directive_in word ≡ Ok x → word ≡ bare (directive_name x)
directive_in_is word x is = by word.is_quoted refl is where
  by : (q : Bool) → word.is_quoted ≡ q →
      (if q then Err (fault_at 0 UnknownInstruction) else or_fault (fault_at 0 UnknownInstruction) (directive_named word.text)) ≡ Ok x →
      word ≡ bare (directive_name x)
  by true q is = absurd (cc)
  by false q is = unquoted word (directive_name x) q
      (directive_is word.text x (good (directive_named word.text) (fault_at 0 UnknownInstruction) x is))

only_is : (words : List Word) (word : Word) → only words ≡ Ok word → words ≡ word ∷ []
only_is [] word is = absurd (cc)
only_is (w ∷ []) word is = let s : w ≡ word = cc in ap (λ x. x ∷ []) s
only_is (w ∷ other ∷ words) word is = absurd (cc)

-- a result that goes on has a first part
pub first_part : {A B F : Type 0} (r : Result A F) (f : A → Result B F) (y : B) → (r >>= f) ≡ Ok y →
    (x : A) × (r ≡ Ok x) × (f x ≡ Ok y)
first_part (Ok x) f y is = (x, refl, is)
first_part (Err fault) f y is = absurd (cc)

pub seen_part : {A B F : Type 0} (view : A → B) (r : Result A F) (y : B) → seen view r ≡ Ok y → (x : A) × (r ≡ Ok x) × (view x ≡ y)
seen_part view (Ok x) y is = (x, refl, cc)
seen_part view (Err fault) y is = absurd (cc)

-- ---- what is read of a line is in the grammar

limit_is : (words : List Word) (n : ℕ) → limit_in words ≡ Ok n → (words ≡ bare (decimal n) ∷ []) × (n < 2 ^ 32)
limit_is words n is =
    let p = first_part (only words) (λ word. placed 1 (wide_word word)) n is in
    let q = wide_is p.0 n (good_place 1 (wide_word p.0) n p.2) in
    (only_is words p.0 p.1 ∙ ap (λ w. w ∷ []) q.0, q.1)

words_in : (x : Directive) (words : List Word) (entry : Entry) → entry_with x words ≡ Ok entry →
    IsEntry (bare (directive_name x) ∷ words) entry
words_in d.Param [] entry is = absurd (cc)
words_in d.Param (name ∷ []) entry is = absurd (cc)
words_in d.Param (name ∷ word ∷ other ∷ words) entry is = absurd (cc)
words_in d.Param (name ∷ word ∷ []) entry is =
    let p = seen_part (λ k. en.Param (record { name = name.text; kind = k })) (placed 2 (kind_word word)) entry is in
    let q = kind_word_is word p.0 (good_place 2 (kind_word word) p.0 p.1) in
    subst (IsEntry (bare (codes ".param") ∷ name ∷ word ∷ [])) p.2
    (subst (λ w. IsEntry (bare (codes ".param") ∷ name ∷ w ∷ []) (en.Param (record { name = name.text; kind = p.0 }))) (sym q)
    (param_entry name p.0))
words_in d.Budget words entry is =
    let p = seen_part en.Budget (limit_in words) entry is in
    let q = limit_is words p.0 p.1 in
    subst (IsEntry (bare (codes ".budget") ∷ words)) p.2
    (subst (λ ws. IsEntry (bare (codes ".budget") ∷ ws) (en.Budget p.0)) (sym q.0) (budget_entry p.0 q.1))
words_in d.Depth words entry is =
    let p = seen_part en.Depth (limit_in words) entry is in
    let q = limit_is words p.0 p.1 in
    subst (IsEntry (bare (codes ".depth") ∷ words)) p.2
    (subst (λ ws. IsEntry (bare (codes ".depth") ∷ ws) (en.Depth p.0)) (sym q.0) (depth_entry p.0 q.1))
words_in d.Text words entry is =
    let p = first_part (only words) (λ word. seen en.Text (placed 1 (quoted_text word))) entry is in
    let q = seen_part en.Text (placed 1 (quoted_text p.0)) entry p.2 in
    let r = quoted_is p.0 q.0 (good_place 1 (quoted_text p.0) q.0 q.1) in
    subst (IsEntry (bare (codes ".text") ∷ words)) q.2
    (subst (λ ws. IsEntry (bare (codes ".text") ∷ ws) (en.Text q.0)) (sym (only_is words p.0 p.1 ∙ ap (λ w. w ∷ []) r)) (text_entry q.0))
words_in d.Call words entry is =
    let p = seen_part (λ (word : Word). en.Call word.text) (only words) entry is in
    subst (IsEntry (bare (codes ".call") ∷ words)) p.2
    (subst (λ ws. IsEntry (bare (codes ".call") ∷ ws) (en.Call p.0.text)) (sym (only_is words p.0 p.1)) (call_entry p.0))

entry_is : (words : List Word) (entry : Entry) → entry_of words ≡ Ok entry → IsEntry words entry
entry_is [] entry is = absurd (cc)
entry_is (first ∷ operands) entry is =
    let p = first_part (directive_in first) (λ x. entry_with x operands) entry is in
    subst (λ w. IsEntry (w ∷ operands) entry) (sym (directive_in_is first p.0 p.1)) (words_in p.0 operands entry p.2)

-- ---- what is in the grammar is read

limit_read : (n : ℕ) → n < 2 ^ 32 → limit_in (bare (decimal n) ∷ []) ≡ Ok n
limit_read n small = ap (λ o. placed 1 (or_fault BadLimit o)) (number_of_decimal n small)

entry_read : (words : List Word) (entry : Entry) → IsEntry words entry → entry_of words ≡ Ok entry
entry_read words entry (param_entry name k) =
    ap (λ o. seen (λ k. en.Param (record { name = name.text; kind = k })) (placed 2 (or_fault BadKind o))) (kind_itself k)
entry_read words entry (budget_entry n small) = ap (seen en.Budget) (limit_read n small)
entry_read words entry (depth_entry n small) = ap (seen en.Depth) (limit_read n small)
entry_read words entry (text_entry text) = refl
entry_read words entry (call_entry name) = refl

-- ---- lines

taken_is : (h k : Head) (entry : Entry) → taken h entry ≡ Ok k → (h.rank ≤ rank_of entry) × (added entry h ≡ k)
taken_is h k entry is = by (nat_lt (rank_of entry) h.rank) refl is where
  by : (b : Bool) → nat_lt (rank_of entry) h.rank ≡ b →
      (if b then Err (fault_at 0 OutOfPlace) else Ok (added entry h)) ≡ Ok k → (h.rank ≤ rank_of entry) × (added entry h ≡ k)
  by true less is = absurd (cc)
  by false less is = (ltb-false (rank_of entry) h.rank less, cc)

taken_in : (h : Head) (entry : Entry) → h.rank ≤ rank_of entry → taken h entry ≡ Ok (added entry h)
taken_in h entry le = by (nat_lt (rank_of entry) h.rank) refl where
  by : (b : Bool) → nat_lt (rank_of entry) h.rank ≡ b →
      (if b then Err (fault_at 0 OutOfPlace) else Ok (added entry h)) ≡ Ok (added entry h)
  by true less = let l = ltb-true (rank_of entry) h.rank less in absurd (omega (arith, l, le))
  by false less = refl

pub in_line_is : {A : Type 0} (line : ℕ) (r : Result A LineFault) (x : A) → in_line line r ≡ Ok x → r ≡ Ok x
in_line_is line (Ok y) x is = let s : y ≡ x = cc in ap (λ k. Ok k) s
in_line_is line (Err fault) x is = absurd (cc)

pub head_is : (line : ℕ) (h : Head) (lines : List (List Word)) (k : Head) → heads_from line h lines ≡ Ok k → IsHead h lines k
head_is line h [] k is = let s : h ≡ k = cc in subst (IsHead h []) s head_end
head_is line h ([] ∷ lines) k is = head_blank (head_is (line + 1) h lines k is)
head_is line h ((word ∷ words) ∷ lines) k is = by (is_head word) refl is (λ g. head_is (line + 1) g lines k) where
  by : (b : Bool) → is_head word ≡ b →
      (in_line line (if b then (entry_of (word ∷ words) >>= taken h) else Ok (past_head h)) >>= λ g. heads_from (line + 1) g lines) ≡ Ok k →
      ((g : Head) → heads_from (line + 1) g lines ≡ Ok k → IsHead g lines k) → IsHead h ((word ∷ words) ∷ lines) k
  by true headed is rest =
      let p = first_part (in_line line (entry_of (word ∷ words) >>= taken h)) (λ g. heads_from (line + 1) g lines) k is in
      let q = first_part (entry_of (word ∷ words)) (taken h) p.0 (in_line_is line (entry_of (word ∷ words) >>= taken h) p.0 p.1) in
      let r = taken_is h p.0 q.0 q.2 in
      head_entry headed (entry_is (word ∷ words) q.0 q.1) r.0 (subst (λ g. IsHead g lines k) (sym r.1) (rest p.0 p.2))
  by false headed is rest = head_code headed (rest (past_head h) is)

pub head_read : (line : ℕ) (h : Head) (lines : List (List Word)) (k : Head) → IsHead h lines k → heads_from line h lines ≡ Ok k
head_read line h lines k head_end = refl
head_read line h lines k (head_blank {lines = rest} more) = head_read (line + 1) h rest k more
head_read line h lines k (head_entry {entry = entry} {word = word} {words = words} {lines = rest} headed is le more) =
    ap (λ b. in_line line (if b then (entry_of (word ∷ words) >>= taken h) else Ok (past_head h)) >>= λ g. heads_from (line + 1) g rest) headed
    ∙ ap (λ r. in_line line (r >>= taken h) >>= λ g. heads_from (line + 1) g rest) (entry_read (word ∷ words) entry is)
    ∙ ap (λ r. in_line line r >>= λ g. heads_from (line + 1) g rest) (taken_in h entry le)
    ∙ head_read (line + 1) (added entry h) rest k more
head_read line h lines k (head_code {word = word} {words = words} {lines = rest} headed more) =
    ap (λ b. in_line line (if b then (entry_of (word ∷ words) >>= taken h) else Ok (past_head h)) >>= λ g. heads_from (line + 1) g rest) headed
    ∙ head_read (line + 1) (past_head h) rest k more

-- the same of results
pub given_head : (lines : List (List Word)) (r : Result Head (Failure TextFault)) →
    Gives (λ head. head) r (heads_from 0 no_head lines) → IfOk r (IsHead no_head lines)
given_head lines (Ok head) is = head_is 0 no_head lines head is
given_head lines (Err failure) is = tt

pub given_lines : (lines : List (List Word)) (r : Result Head (Failure TextFault)) (head : Head) → IsHead no_head lines head →
    Gives (λ head. head) r (heads_from 0 no_head lines) → Gives (λ head. head) r (Ok head)
given_lines lines r head is given = subst (Gives (λ head. head) r) (head_read 0 no_head lines head is) given

-- the head behind lines is that before further ones
pub head_append : (h k g : Head) (xs ys : List (List Word)) → IsHead h xs k → IsHead k ys g → IsHead h (xs ++ ys) g
head_append h k g xs ys head_end more = more
head_append h k g xs ys (head_blank {lines = rest} first) more = head_blank (head_append h k g rest ys first more)
head_append h k g xs ys (head_entry {entry = entry} {lines = rest} headed is le first) more =
    head_entry headed is le (head_append (added entry h) k g rest ys first more)
head_append h k g xs ys (head_code {lines = rest} headed first) more = head_code headed (head_append (past_head h) k g rest ys first more)
