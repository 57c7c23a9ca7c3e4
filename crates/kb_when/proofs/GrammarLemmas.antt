-- The state machine agrees with the grammar: it returns the clause that the tokens denote, and no other.
use Rattle.std.proofs.Common.{◌≡◌, ℕ, zero, suc, ◌+◌, ◌*◌, ◌<◌, ◌≤◌, List, [], ◌∷◌, Bool, true, false, Some}
use Rattle.std.proofs.Common.{None, Option, Ok, Err, length, refl, sym, ◌∙◌, ap, subst, arith, cond}
use Rattle.std.specs.Prelude.{ℤ, nat_lt, Result}
use Rattle.std.specs.Str.{bytes_eq}
use Rattle.std.proofs.lemmas.Bool.Decides.{nat_tests}
use Rattle.kb_when.specs.declared.operator.Operator.{Operator}
use Rattle.kb_when.specs.declared.token.Token.{Token}
use Rattle.kb_when.specs.declared.token.Token.TheVariants.{Or, And, Not, Open, Close, Equal, Unequal}
use Rattle.kb_when.specs.declared.token.Token.TheVariants.{Comparison, Like, Word, Quoted, Pattern}
use Rattle.kb_when.specs.declared.fault.WhenFault.{WhenFault}
use Rattle.kb_when.specs.declared.fault.WhenFault.TheVariants.{Unexpected, TooDeep}
use Rattle.kb_when.specs.Number.{number_of}
use Rattle.kb_when.specs.Words.{the_true, the_false, the_in, the_not, is_reserved, is_equal, is_unequal}
use Rattle.kb_when.specs.Clause.{Clause, Clauses, no_clauses, clause, always, never, key, equals, compare}
use Rattle.kb_when.specs.Clause.{matches, member, not_of}
use Rattle.kb_pattern.specs.Pattern.{flags_of}
use Rattle.kb_when.specs.Grammar.{Disjuncts, Conjuncts, Operand, KeyTail, alone, equal_word, equal_quoted}
use Rattle.kb_when.specs.Grammar.{unequal_word, unequal_quoted, compared, matched, among, not_among}
use Rattle.kb_when.specs.Grammar.{last_or, more_or, last_and, more_and, negated, enclosed, truth, falsity}
use Rattle.kb_when.specs.Grammar.{keyed, IsClause, any_joined, all_joined}
use Rattle.kb_when.specs.Reading.{Step, at_operand, behind_operand, behind_key, behind_not, at_other}
use Rattle.kb_when.specs.Reading.{compared_with, Opened, bang, paren, Built, append, snoc, operand, members}
use Rattle.kb_when.specs.Reading.{nothing, closed, whole, go, read_from, clause_of_tokens}
use Rattle.kb_when.specs.Parser.{IsBare, NoAnd}
use Rattle.kb_when.proofs.DescentLemmas.{snoc-append, bare_operand, is_below}
use Rattle.kb_when.proofs.WordsLemmas.{of_bytes, none_of}

-- ---- each derivation drives the reading

-- what may follow an operand
abbrev Follows : List Token → Type 0
Follows [] = Unit {0}
Follows (Or ∷ ts) = Unit {0}
Follows (And ∷ ts) = Unit {0}
Follows (Close ∷ ts) = Unit {0}
Follows (_ ∷ ts) = ⊥

-- what may follow operands with "||" between them
abbrev Ends : List Token → Type 0
Ends [] = Unit {0}
Ends (Close ∷ ts) = Unit {0}
Ends (_ ∷ ts) = ⊥

follows : (rest : List Token) → Ends rest → Follows rest
follows [] h = tt
follows (Close ∷ ts) h = tt
follows (_ ∷ ts) h = absurd h

read_tail : {k : List ℕ} {ts rest : List Token} {t : Clause} → KeyTail k ts t rest → Follows rest
    → (b : Built) → read_from (behind_key k) b ts ≡ read_from behind_operand (operand b t) rest
read_tail {rest = []} alone h b = refl
read_tail {rest = Or ∷ us} alone h b = refl
read_tail {rest = And ∷ us} alone h b = refl
read_tail {rest = Close ∷ us} alone h b = refl
read_tail {rest = _ ∷ us} alone h b = absurd h
read_tail (equal_word v) h b = refl
read_tail (equal_quoted v) h b = refl
read_tail (unequal_word v) h b = refl
read_tail (unequal_quoted v) h b = refl
read_tail (compared o w z e) h b = rw e refl
read_tail (matched p letters) h b = refl
read_tail (among o r) h b = rw r refl
read_tail (not_among o r) h b = rw r refl

-- at the end, or at the ")"
abbrev closing : Clauses → List Opened → List Token → Result Clause WhenFault
closing cs st [] = whole cs st
closing cs st (t ∷ rest) = go (closed cs st) (λ s b. read_from s b rest)

at_closing : (b : Built) (rest : List Token) → Ends rest
    → read_from behind_operand b rest ≡ closing (members b) b.opened rest
at_closing b [] h = refl
at_closing b (Close ∷ ts) h = refl
at_closing b (_ ∷ ts) h = absurd h

mutual
  read_ors : {n : ℕ} {ts rest : List Token} {cs : Clauses} → Disjuncts n ts cs rest → Ends rest
      → (os : Clauses) (st : List Opened) → length st ≡ n → IsBare st
      → read_from at_operand (record { ors = os; ands = no_clauses; opened = st }) ts
      ≡ closing (append os cs) st rest
  read_ors {rest = rest} (last_or {cs = cs} d) h os st e b =
      read_ands d (follows rest h) (record { ors = os; ands = no_clauses; opened = st }) e b
      ∙ at_closing (record { ors = os; ands = cs; opened = st }) rest h
  read_ors {rest = rest} (more_or {cs = cs} {ds = ds} d r) h os st e b =
      read_ands d tt (record { ors = os; ands = no_clauses; opened = st }) e b
      ∙ read_ors r h (snoc os (all_joined cs)) st e b
      ∙ ap (λ (x : Clauses). closing x st rest) (snoc-append os (all_joined cs) ds)

  read_ands : {n : ℕ} {ts rest : List Token} {cs : Clauses} → Conjuncts n ts cs rest → Follows rest
      → (b : Built) → length b.opened ≡ n → IsBare b.opened
      → read_from at_operand b ts ≡ read_from behind_operand (record b { ands = append b.ands cs }) rest
  read_ands {rest = rest} (last_and {t = t} d) h b e bare =
      read_operand d h b e ∙ ap (λ (x : Built). read_from behind_operand x rest) (bare_operand b t bare)
  read_ands {rest = rest} (more_and {us = us} {t = t} {cs = cs} d r) h b e bare =
      read_operand d tt b e
      ∙ ap (λ (x : Built). read_from behind_operand x (And ∷ us)) (bare_operand b t bare)
      ∙ read_ands r h (record b { ands = snoc b.ands t }) e bare
      ∙ ap (λ (x : Clauses). read_from behind_operand (record b { ands = x }) rest) (snoc-append b.ands t cs)

  read_operand : {n : ℕ} {ts rest : List Token} {t : Clause} → Operand n ts t rest → Follows rest
      → (b : Built) → length b.opened ≡ n
      → read_from at_operand b ts ≡ read_from behind_operand (operand b t) rest
  read_operand {n = n} (negated lt d) h b e =
      rw (is_below b.opened n lt e)
      (read_operand d h (record { ors = b.ors; ands = b.ands; opened = bang ∷ b.opened }) (ap suc e))
  read_operand {n = n} (enclosed lt d) h b e =
      rw (is_below b.opened n lt e) (read_ors d tt no_clauses (paren b.ors b.ands ∷ b.opened) (ap suc e) tt)
  read_operand truth h b e = refl
  read_operand falsity h b e = refl
  read_operand (keyed k r d) h b e = let p = none_of k r in rw (p.0, p.1, p.2, p.3) (read_tail d h b)

pub read_clause : (ts : List Token) (t : Clause) → IsClause ts t → clause_of_tokens ts ≡ Ok t
read_clause ts t c = read_ors c.derived tt no_clauses [] refl tt ∙ ap Ok (sym c.joined)

-- ---- each reading has a derivation

abbrev failed-clause : WhenFault → Result Clause WhenFault
failed-clause f = Err f

abbrev IsErr : Result Clause WhenFault → Type 0
IsErr (Err f) = Unit {0}
IsErr (Ok t) = ⊥

pub no_ok : {f : WhenFault} {t : Clause} → failed-clause f ≡ Ok t → ⊥
no_ok h = subst IsErr h tt

abbrev failed : WhenFault → Step
failed f = Err f

-- the tail of a key: what it is, and how the reading goes on
record TailFound (k : List ℕ) (b : Built) (ts : List Token) (t : Clause) : Type 0 where
  pub tree : Clause
  pub rest : List Token
  pub derived : KeyTail k ts tree rest
  pub goes_on : read_from behind_operand (operand b tree) rest ≡ Ok t
  pub shorter : length rest ≤ length ts

-- the other key
record OtherFound (inside : Bool) (k : List ℕ) (b : Built) (ts : List Token) (t : Clause) : Type 0 where
  pub other : List ℕ
  pub rest : List Token
  pub first : ts ≡ Word other ∷ rest
  pub a_key : is_reserved other ≡ false
  pub goes_on : read_from behind_operand
      (operand b (cond inside (member k other) (not_of (member k other)))) rest ≡ Ok t

find_other : (inside : Bool) (k : List ℕ) (b : Built) (ts : List Token) (t : Clause)
    → read_from (at_other inside k) b ts ≡ Ok t → OtherFound inside k b ts t
find_other inside k b [] t h = absurd (no_ok h)
find_other inside k b (Word w ∷ rest) t h = by (is_reserved w) refl h where
  by : (r : Bool) → is_reserved w ≡ r
      → go (cond r (failed Unexpected)
      (Ok (behind_operand, operand b (cond inside (member k w) (not_of (member k w)))))) (λ s c. read_from s
      c rest) ≡ Ok t → OtherFound inside k b (Word w ∷ rest) t
  by true e h = absurd (no_ok h)
  by false e h = record { other = w; rest = rest; first = refl; a_key = e; goes_on = h }
find_other inside k b (_ ∷ rest) t h = absurd (no_ok h)

tail_in : (k : List ℕ) (b : Built) (ts : List Token) (t : Clause) → OtherFound true k b ts t
    → TailFound k b (Word the_in ∷ ts) t
tail_in k b ts t o = subst (λ (x : List Token). TailFound k b (Word the_in ∷ x) t) (sym o.first)
    (record {
      tree = member k o.other;
      rest = o.rest;
      derived = among o.other o.a_key;
      goes_on = o.goes_on;
      shorter = omega arith;
    })

tail_not_in : (k : List ℕ) (b : Built) (ts : List Token) (t : Clause) → OtherFound false k b ts t
    → TailFound k b (Word the_not ∷ Word the_in ∷ ts) t
tail_not_in k b ts t o =
    subst (λ (x : List Token). TailFound k b (Word the_not ∷ Word the_in ∷ x) t) (sym o.first)
    (record {
      tree = not_of (member k o.other);
      rest = o.rest;
      derived = not_among o.other o.a_key;
      goes_on = o.goes_on;
      shorter = omega arith;
    })

find_not : (k : List ℕ) (b : Built) (ts : List Token) (t : Clause) → read_from (behind_not k) b ts ≡ Ok t
    → TailFound k b (Word the_not ∷ ts) t
find_not k b [] t h = absurd (no_ok h)
find_not k b (Word w ∷ ts) t h = by (bytes_eq the_in w) refl h where
  by : (r : Bool) → bytes_eq the_in w ≡ r
      → go (cond r (Ok (at_other false k, b)) (failed Unexpected)) (λ s c. read_from s c ts) ≡ Ok t
      → TailFound k b (Word the_not ∷ Word w ∷ ts) t
  by true e h = subst (λ (x : List ℕ). TailFound k b (Word the_not ∷ Word x ∷ ts) t) (of_bytes the_in w e)
      (tail_not_in k b ts t (find_other false k b ts t h))
  by false e h = absurd (no_ok h)
find_not k b (_ ∷ ts) t h = absurd (no_ok h)

find_word : (k w : List ℕ) (b : Built) (ts : List Token) (t : Clause)
    → read_from (behind_key k) b (Word w ∷ ts) ≡ Ok t → TailFound k b (Word w ∷ ts) t
find_word k w b ts t h = by (bytes_eq the_in w) (bytes_eq the_not w) refl refl h where
  by : (p q : Bool) → bytes_eq the_in w ≡ p → bytes_eq the_not w ≡ q
      → go (cond p (Ok (at_other true k, b)) (cond q (Ok (behind_not k, b)) (failed Unexpected)))
      (λ s c. read_from s c ts) ≡ Ok t → TailFound k b (Word w ∷ ts) t
  by true q e g h = subst (λ (x : List ℕ). TailFound k b (Word x ∷ ts) t) (of_bytes the_in w e)
      (tail_in k b ts t (find_other true k b ts t h))
  by false true e g h = subst (λ (x : List ℕ). TailFound k b (Word x ∷ ts) t) (of_bytes the_not w g)
      (find_not k b ts t h)
  by false false e g h = absurd (no_ok h)

find_number : (k w : List ℕ) (o : Operator) (b : Built) (ts : List Token) (t : Clause)
    → go (compared_with o k b (number_of w)) (λ s c. read_from s c ts) ≡ Ok t
    → TailFound k b (Comparison o ∷ Word w ∷ ts) t
find_number k w o b ts t h = by (number_of w) refl h where
  by : (n : Option ℤ) → number_of w ≡ n → go (compared_with o k b n) (λ s c. read_from s c ts) ≡ Ok t
      → TailFound k b (Comparison o ∷ Word w ∷ ts) t
  by (Some n) e h = record
      { tree = compare k o n; rest = ts; derived = compared o w n e; goes_on = h; shorter = omega arith }
  by None e h = absurd (no_ok h)

find_tail : (k : List ℕ) (b : Built) (ts : List Token) (t : Clause) → read_from (behind_key k) b ts ≡ Ok t
    → TailFound k b ts t
find_tail k b (Equal ∷ Word v ∷ rest) t h =
    record { tree = is_equal k v; rest = rest; derived = equal_word v; goes_on = h; shorter = omega arith }
find_tail k b (Equal ∷ Quoted v ∷ rest) t h =
    record { tree = equals k v; rest = rest; derived = equal_quoted v; goes_on = h; shorter = omega arith }
find_tail k b (Equal ∷ []) t h = absurd (no_ok h)
find_tail k b (Equal ∷ _ ∷ rest) t h = absurd (no_ok h)
find_tail k b (Unequal ∷ Word v ∷ rest) t h =
    record {
      tree = is_unequal k v;
      rest = rest;
      derived = unequal_word v;
      goes_on = h;
      shorter = omega arith;
    }
find_tail k b (Unequal ∷ Quoted v ∷ rest) t h =
    record {
      tree = not_of (equals k v);
      rest = rest;
      derived = unequal_quoted v;
      goes_on = h;
      shorter = omega arith;
    }
find_tail k b (Unequal ∷ []) t h = absurd (no_ok h)
find_tail k b (Unequal ∷ _ ∷ rest) t h = absurd (no_ok h)
find_tail k b (Comparison o ∷ Word w ∷ rest) t h = find_number k w o b rest t h
find_tail k b (Comparison o ∷ []) t h = absurd (no_ok h)
find_tail k b (Comparison o ∷ _ ∷ rest) t h = absurd (no_ok h)
find_tail k b (Like ∷ Pattern p letters ∷ rest) t h =
    record {
      tree = matches k p (flags_of letters);
      rest = rest;
      derived = matched p letters;
      goes_on = h;
      shorter = omega arith;
    }
find_tail k b (Like ∷ []) t h = absurd (no_ok h)
find_tail k b (Like ∷ _ ∷ rest) t h = absurd (no_ok h)
find_tail k b (Word w ∷ ts) t h = find_word k w b ts t h
find_tail k b [] t h = record { tree = key k; rest = []; derived = alone; goes_on = h; shorter = omega arith }
find_tail k b (And ∷ ts) t h =
    record { tree = key k; rest = And ∷ ts; derived = alone; goes_on = h; shorter = omega arith }
find_tail k b (Or ∷ ts) t h =
    record { tree = key k; rest = Or ∷ ts; derived = alone; goes_on = h; shorter = omega arith }
find_tail k b (Close ∷ ts) t h =
    record { tree = key k; rest = Close ∷ ts; derived = alone; goes_on = h; shorter = omega arith }
find_tail k b (_ ∷ ts) t h = absurd (no_ok h)

-- an operand, operands of "&&" and of "||": what they are, and how the reading goes on
record OperandFound (b : Built) (ts : List Token) (t : Clause) : Type 0 where
  pub tree : Clause
  pub rest : List Token
  pub derived : Operand (length b.opened) ts tree rest
  pub goes_on : read_from behind_operand (operand b tree) rest ≡ Ok t
  pub shorter : length rest < length ts

record AndsFound (b : Built) (ts : List Token) (t : Clause) : Type 0 where
  pub trees : Clauses
  pub rest : List Token
  pub derived : Conjuncts (length b.opened) ts trees rest
  pub goes_on : read_from behind_operand (record b { ands = append b.ands trees }) rest ≡ Ok t
  pub shorter : length rest < length ts
  pub no_and : NoAnd rest

record OrsFound (os : Clauses) (st : List Opened) (ts : List Token) (t : Clause) : Type 0 where
  pub trees : Clauses
  pub rest : List Token
  pub derived : Disjuncts (length st) ts trees rest
  pub goes_on : closing (append os trees) st rest ≡ Ok t
  pub shorter : length rest < length ts
  pub ends : Ends rest

found_word : (b : Built) (w : List ℕ) (ts : List Token) (t : Clause)
    → read_from at_operand b (Word w ∷ ts) ≡ Ok t → OperandFound b (Word w ∷ ts) t
found_word b w ts t h = by (bytes_eq the_true w) (bytes_eq the_false w) (is_reserved w) refl refl refl h where
  by : (p q r : Bool) → bytes_eq the_true w ≡ p → bytes_eq the_false w ≡ q → is_reserved w ≡ r →
      go (cond p (Ok (behind_operand, operand b always))
      (cond q (Ok (behind_operand, operand b never))
      (cond r (failed Unexpected)
      (Ok (behind_key w, b))))) (λ s c. read_from s c ts) ≡ Ok t → OperandFound b (Word w ∷ ts) t
  by true q r e f g h = subst (λ (x : List ℕ). OperandFound b (Word x ∷ ts) t) (of_bytes the_true w e)
      (record { tree = always; rest = ts; derived = truth; goes_on = h; shorter = omega arith })
  by false true r e f g h =
      subst (λ (x : List ℕ). OperandFound b (Word x ∷ ts) t) (of_bytes the_false w f)
      (record { tree = never; rest = ts; derived = falsity; goes_on = h; shorter = omega arith })
  by false false true e f g h = absurd (no_ok h)
  by false false false e f g h =
      let o = find_tail w b ts t h in
      let le = o.shorter in
      record {
        tree = o.tree;
        rest = o.rest;
        derived = keyed w g o.derived;
        goes_on = o.goes_on;
        shorter = omega arith;
      }

-- one more open, where the limit allows it
found_within : (b c : Built) (ts us : List Token) (t : Clause)
    → go (cond (nat_lt (length b.opened) 64) (Ok (at_operand, c)) (failed TooDeep))
    (λ s d. read_from s d ts) ≡ Ok t
    → (length b.opened < 64 → read_from at_operand c ts ≡ Ok t → OperandFound b us t) → OperandFound b us t
found_within b c ts us t h f = by (nat_lt (length b.opened) 64) refl h where
  by : (r : Bool) → nat_lt (length b.opened) 64 ≡ r
      → go (cond r (Ok (at_operand, c)) (failed TooDeep)) (λ s d. read_from s d ts) ≡ Ok t
      → OperandFound b us t
  by true e h = f (grind (arith, nat_tests)) h
  by false e h = absurd (no_ok h)

found_not : (b : Built) (ts : List Token) (t : Clause) → length b.opened < 64
    → OperandFound (record { ors = b.ors; ands = b.ands; opened = bang ∷ b.opened }) ts t
    → OperandFound b (Not ∷ ts) t
found_not b ts t lt o = let l = o.shorter in
    record {
      tree = not_of o.tree;
      rest = o.rest;
      derived = negated lt o.derived;
      goes_on = o.goes_on;
      shorter = omega arith;
    }

found_open : (b : Built) (ts : List Token) (t : Clause) → length b.opened < 64
    → OrsFound no_clauses (paren b.ors b.ands ∷ b.opened) ts t → OperandFound b (Open ∷ ts) t
found_open b ts t lt o = by o.rest o.derived o.goes_on o.shorter o.ends where
  by : (rest : List Token) → Disjuncts (suc (length b.opened)) ts o.trees rest
      → closing o.trees (paren b.ors b.ands ∷ b.opened) rest ≡ Ok t → length rest < length ts → Ends rest
      → OperandFound b (Open ∷ ts) t
  by [] d g l e = absurd (no_ok g)
  by (Close ∷ rest) d g l e =
      record {
        tree = any_joined o.trees;
        rest = rest;
        derived = enclosed lt d;
        goes_on = g;
        shorter = omega arith;
      }
  by (_ ∷ rest) d g l e = absurd e

found_ands : (b : Built) (ts : List Token) (t : Clause) → IsBare b.opened → (o : OperandFound b ts t)
    → ((us : List Token) → length us < length ts
    → read_from at_operand (record b { ands = snoc b.ands o.tree }) us ≡ Ok t
    → AndsFound (record b { ands = snoc b.ands o.tree }) us t) → AndsFound b ts t
found_ands b ts t bare o f =
    by o.rest o.derived
    (ap (λ (x : Built). read_from behind_operand x o.rest) (sym (bare_operand b o.tree bare)) ∙ o.goes_on)
    o.shorter where
      one : (rest : List Token) → Operand (length b.opened) ts o.tree rest
          → read_from behind_operand (record b { ands = snoc b.ands o.tree }) rest ≡ Ok t
          → length rest < length ts → NoAnd rest → AndsFound b ts t
      one rest d g l n = record {
        trees = clause o.tree no_clauses;
        rest = rest;
        derived = last_and d;
        goes_on = g;
        shorter = l;
        no_and = n;
      }

      more : (us : List Token) → Operand (length b.opened) ts o.tree (And ∷ us) → length (And ∷ us) < length ts
          → AndsFound (record b { ands = snoc b.ands o.tree }) us t → AndsFound b ts t
      more us d l a = let k = a.shorter in record {
        trees = clause o.tree a.trees;
        rest = a.rest;
        derived = more_and d a.derived;
        goes_on = ap (λ (x : Clauses). read_from behind_operand (record b { ands = x }) a.rest)
            (sym (snoc-append b.ands o.tree a.trees)) ∙ a.goes_on;
        shorter = omega arith;
        no_and = a.no_and;
      }

      by : (rest : List Token) → Operand (length b.opened) ts o.tree rest
          → read_from behind_operand (record b { ands = snoc b.ands o.tree }) rest ≡ Ok t
          → length rest < length ts → AndsFound b ts t
      by (And ∷ us) d g l = more us d l (f us (omega arith) g)
      by [] d g l = one [] d g l tt
      by (Or ∷ us) d g l = one (Or ∷ us) d g l tt
      by (Close ∷ us) d g l = one (Close ∷ us) d g l tt
      by (_ ∷ us) d g l = absurd (no_ok g)

found_ors : (os : Clauses) (st : List Opened) (ts : List Token) (t : Clause)
    → (a : AndsFound (record { ors = os; ands = no_clauses; opened = st }) ts t)
    → ((us : List Token) → length us < length ts
    → read_from at_operand
    (record { ors = snoc os (all_joined a.trees); ands = no_clauses; opened = st }) us ≡ Ok t
    → OrsFound (snoc os (all_joined a.trees)) st us t) → OrsFound os st ts t
found_ors os st ts t a f = by a.rest a.derived a.goes_on a.shorter a.no_and where
  one : (rest : List Token) → Conjuncts (length st) ts a.trees rest
      → closing (snoc os (all_joined a.trees)) st rest ≡ Ok t → length rest < length ts → Ends rest
      → OrsFound os st ts t
  one rest d g l e = record {
    trees = clause (all_joined a.trees) no_clauses;
    rest = rest;
    derived = last_or d;
    goes_on = g;
    shorter = l;
    ends = e;
  }

  more : (us : List Token) → Conjuncts (length st) ts a.trees (Or ∷ us) → length (Or ∷ us) < length ts
      → OrsFound (snoc os (all_joined a.trees)) st us t → OrsFound os st ts t
  more us d l o = let k = o.shorter in record {
    trees = clause (all_joined a.trees) o.trees;
    rest = o.rest;
    derived = more_or d o.derived;
    goes_on = ap (λ (x : Clauses). closing x st o.rest) (sym (snoc-append os (all_joined a.trees) o.trees))
        ∙ o.goes_on;
    shorter = omega arith;
    ends = o.ends;
  }

  by : (rest : List Token) → Conjuncts (length st) ts a.trees rest
      → read_from behind_operand (record { ors = os; ands = a.trees; opened = st }) rest ≡ Ok t
      → length rest < length ts → NoAnd rest → OrsFound os st ts t
  by (And ∷ us) d g l n = absurd n
  by (Or ∷ us) d g l n = more us d l (f us (omega arith) g)
  by [] d g l n = one [] d g l tt
  by (Close ∷ us) d g l n = one (Close ∷ us) d g l tt
  by (_ ∷ us) d g l n = absurd (no_ok g)

mutual
  find_operand : (m : ℕ) (b : Built) (ts : List Token) (t : Clause) → 3 * length ts + 1 ≤ m
      → read_from at_operand b ts ≡ Ok t → OperandFound b ts t
  find_operand zero b ts t h e = absurd (omega arith)
  find_operand (suc m) b [] t h e = absurd (no_ok e)
  find_operand (suc m) b (Not ∷ ts) t h e =
      found_within b (record { ors = b.ors; ands = b.ands; opened = bang ∷ b.opened }) ts (Not ∷ ts) t e
      (λ lt g. found_not b ts t lt (find_operand m _ ts t (omega arith) g))
  find_operand (suc m) b (Open ∷ ts) t h e =
      found_within b (nothing (paren b.ors b.ands ∷ b.opened)) ts (Open ∷ ts) t e
      (λ lt g. found_open b ts t lt
      (find_ors m no_clauses (paren b.ors b.ands ∷ b.opened) ts t (omega arith) tt g))
  find_operand (suc m) b (Word w ∷ ts) t h e = found_word b w ts t e
  find_operand (suc m) b (_ ∷ ts) t h e = absurd (no_ok e)

  find_ands : (m : ℕ) (b : Built) (ts : List Token) (t : Clause) → 3 * length ts + 2 ≤ m → IsBare b.opened
      → read_from at_operand b ts ≡ Ok t → AndsFound b ts t
  find_ands zero b ts t h bare e = absurd (omega arith)
  find_ands (suc m) b ts t h bare e =
      found_ands b ts t bare (find_operand m b ts t (omega arith) e)
      (λ us l g. find_ands m _ us t (omega arith) bare g)

  find_ors : (m : ℕ) (os : Clauses) (st : List Opened) (ts : List Token) (t : Clause)
      → 3 * length ts + 3 ≤ m → IsBare st
      → read_from at_operand (record { ors = os; ands = no_clauses; opened = st }) ts ≡ Ok t
      → OrsFound os st ts t
  find_ors zero os st ts t h bare e = absurd (omega arith)
  find_ors (suc m) os st ts t h bare e =
      found_ors os st ts t
      (find_ands m (record { ors = os; ands = no_clauses; opened = st }) ts t (omega arith) bare e)
      (λ us l g. find_ors m _ st us t (omega arith) bare g)

pub found_clause : (ts : List Token) (t : Clause) → clause_of_tokens ts ≡ Ok t → IsClause ts t
found_clause ts t h = by (find_ors (3 * length ts + 3) no_clauses [] ts t (omega arith) tt h) where
  all : (cs : Clauses) (rest : List Token) → Disjuncts 0 ts cs rest → closing cs [] rest ≡ Ok t → Ends rest
      → IsClause ts t
  all cs [] d g e = record { members = cs; joined = let p : any_joined cs ≡ t = cc in sym p; derived = d }
  all cs (Close ∷ rest) d g e = absurd (no_ok g)
  all cs (_ ∷ rest) d g e = absurd e

  by : OrsFound no_clauses [] ts t → IsClause ts t
  by o = all o.trees o.rest o.derived o.goes_on o.ends
