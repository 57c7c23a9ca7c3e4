-- How the state machine continues after the tokens that the parser consumed.
use Rattle.std.proofs.Common.{◌≡◌, ℕ, ◌+◌, ◌<◌, ◌≤◌, List, [], ◌∷◌, ◌++◌, true, Ok, Err, map, length, refl}
use Rattle.std.proofs.Common.{sym, ◌∙◌, ap, subst, arith, add-one}
use Rattle.std.specs.Prelude.{nat_lt, Result}
use Rattle.std.proofs.lemmas.Bool.Decides.{nat_tests}
use Rattle.std.proofs.lemmas.List.{map-append}
use Rattle.kb_when.specs.declared.tree.Tree.{Tree}
use Rattle.kb_when.specs.declared.token.Token.{Token}
use Rattle.kb_when.specs.declared.token.Token.TheVariants.{Or, And, Not, Open, Close}
use Rattle.kb_when.specs.declared.fault.WhenFault.{WhenFault}
use Rattle.kb_when.specs.declared.fault.WhenFault.TheVariants.{Unexpected}
use Rattle.kb_base.specs.declared.failure.Failure.{Failure}
use Rattle.kb_base.specs.declared.failure.Failure.TheVariants as failures
use Rattle.kb_base.specs.Failure.{Fails}
use Rattle.kb_when.specs.Clause.{Clause, Clauses, no_clauses, clause, not_of, all_of, any_of}
use Rattle.kb_when.specs.Tree.{clause_of, clauses_of}
use Rattle.kb_when.specs.Grammar.{any_joined, all_joined}
use Rattle.kb_when.specs.Reading.{at_operand, behind_operand, Opened, bang, paren, Built, append, snoc}
use Rattle.kb_when.specs.Reading.{operand, read_from, clause_of_tokens}
use Rattle.kb_when.specs.Parser.{ReadsOperand, ReadsConjunction, ReadsDisjunction, IsBare, NoAnd, NoOr}
use Rattle.kb_when.specs.Parser.{FailsOperand, FailsDisjunction, behind_close, all_read}

-- ---- lists of clauses

pub snoc-append : (ts : Clauses) (t : Clause) (us : Clauses) → append (snoc ts t) us ≡ append ts (clause t us)
snoc-append no_clauses t us = refl
snoc-append (clause u ts) t us = ap (clause u) (snoc-append ts t us)

append-snoc : (ts us : Clauses) (t : Clause) → append ts (snoc us t) ≡ snoc (append ts us) t
append-snoc no_clauses us t = refl
append-snoc (clause u ts) us t = ap (clause u) (append-snoc ts us t)

pub append-none : (ts : Clauses) → append ts no_clauses ≡ ts
append-none no_clauses = refl
append-none (clause t ts) = ap (clause t) (append-none ts)

snoc-clauses : (ts : List Clause) (t : Clause) → clauses_of (ts ++ t ∷ []) ≡ snoc (clauses_of ts) t
snoc-clauses [] t = refl
snoc-clauses (u ∷ ts) t = ap (clause u) (snoc-clauses ts t)

-- ---- no "!" waits

bare_by : (os an : Clauses) (st : List Opened) (t : Clause) → IsBare st
    → operand (record { ors = os; ands = an; opened = st }) t
    ≡ record { ors = os; ands = snoc an t; opened = st }
bare_by os an [] t h = refl
bare_by os an (bang ∷ st) t h = absurd h
bare_by os an (paren ps bs ∷ st) t h = refl

pub bare_operand : (b : Built) (t : Clause) → IsBare b.opened
    → operand b t ≡ record b { ands = snoc b.ands t }
bare_operand b t h = bare_by b.ors b.ands b.opened t h

pub is_below : (st : List Opened) (n : ℕ) → n < 64 → length st ≡ n → nat_lt (length st) 64 ≡ true
is_below st n h e = let lt : length st < 64 = omega arith in grind (arith, nat_tests)

-- ---- "!" and "("

pub reads_negated : (n : ℕ) (ts rest : List Token) (t u : Clause) → n < 64 → u ≡ not_of t
    → ReadsOperand (n + 1) ts t rest → ReadsOperand n (Not ∷ ts) u rest
reads_negated n ts rest t u h e r = subst (λ (x : Clause). ReadsOperand n (Not ∷ ts) x rest) (sym e) (record {
  goes_on = λ b m. rw (is_below b.opened n h m)
      (r.goes_on (record { ors = b.ors; ands = b.ands; opened = bang ∷ b.opened }) (rw (m, add-one) refl));
  shorter = let lt = r.shorter in omega arith;
})

pub fails_negated : (n : ℕ) (ts : List Token) (f : Failure WhenFault) → n < 64 → FailsOperand (n + 1) ts f
    → FailsOperand n (Not ∷ ts) f
fails_negated n ts f h r =
    λ b m. rw (is_below b.opened n h m)
    (r (record { ors = b.ors; ands = b.ands; opened = bang ∷ b.opened }) (rw (m, add-one) refl))

pub reads_enclosed : (n : ℕ) (ts more rest : List Token) (t : Clause) → n < 64 → Ok rest ≡ behind_close more
    → ReadsDisjunction (n + 1) ts t more → ReadsOperand n (Open ∷ ts) t rest
reads_enclosed n ts (Close ∷ us) rest t h e r =
    subst (λ (x : Clause). ReadsOperand n (Open ∷ ts) x rest) (sym r.joined)
    (subst (λ (x : List Token). ReadsOperand n (Open ∷ ts)
    (any_joined (snoc r.before (all_joined r.last))) x) (let p : us ≡ rest = cc in p) (record {
      goes_on = λ b m. rw (is_below b.opened n h m)
          (r.goes_on no_clauses (paren b.ors b.ands ∷ b.opened) (rw (m, add-one) refl) tt);
      shorter = let lt = r.shorter in omega arith;
    }))
reads_enclosed n ts [] rest t h e r = cc
reads_enclosed n ts (_ ∷ us) rest t h e r = cc

pub fails_enclosed : (n : ℕ) (ts : List Token) (f : Failure WhenFault) → n < 64
    → FailsDisjunction (n + 1) ts f
    → FailsOperand n (Open ∷ ts) f
fails_enclosed n ts f h r =
    λ b m. rw (is_below b.opened n h m)
    (r no_clauses (paren b.ors b.ands ∷ b.opened) (rw (m, add-one) refl) tt)

-- one fault, of whatever was asked for
abbrev failed : (A : Type 0) → WhenFault → Result A WhenFault
failed A f = Err f

same_fault : {A B : Type 0} (e f : WhenFault) → failed A e ≡ failed A f → failed B e ≡ failed B f
same_fault {A} {B} e f h = let p : e ≡ f = cc in ap (failed B) p

-- what stands where a ")" is wanted
not_closed : (b : Built) (more : List Token) (f : WhenFault) (os an : Clauses) (st : List Opened)
    → b.opened ≡ paren os an ∷ st → NoAnd more → NoOr more → Err f ≡ behind_close more
    → read_from behind_operand b more ≡ Err f
not_closed b [] f os an st o p q e = rw o (same_fault Unexpected f (sym e))
not_closed b (And ∷ us) f os an st o p q e = absurd p
not_closed b (Or ∷ us) f os an st o p q e = absurd q
not_closed b (Close ∷ us) f os an st o p q e = cc
not_closed b (_ ∷ us) f os an st o p q e = same_fault Unexpected f (sym e)

-- a failure is one of what the reading goes on with
pub goes_to : (f : Failure WhenFault) {x y : Result Clause WhenFault} → x ≡ y → Fails f y → Fails f x
goes_to f e h = subst (λ (z : Result Clause WhenFault). Fails f z) (sym e) h

pub fails_closed : (n : ℕ) (ts more : List Token) (t : Clause) (f : WhenFault) → n < 64
    → Err f ≡ behind_close more → ReadsDisjunction (n + 1) ts t more
    → FailsOperand n (Open ∷ ts) (failures.Fault f)
fails_closed n ts more t f h e r = λ b m. rw (is_below b.opened n h m)
    (r.goes_on no_clauses (paren b.ors b.ands ∷ b.opened) (rw (m, add-one) refl) tt
    ∙ not_closed _ more f b.ors b.ands b.opened refl r.no_and r.no_or e)

-- ---- operands one after another

pub record AllSoFar (n : ℕ) (tokens : List Token) (ts : List Clause) (rest : List Token) : Type 0 where
  pub goes_on : (b : Built) → length b.opened ≡ n → IsBare b.opened
      → read_from at_operand b tokens
      ≡ read_from at_operand (record b { ands = append b.ands (clauses_of ts) }) rest
  pub shorter : length rest ≤ length tokens

module _ (n : ℕ) (tokens rest : List Token) (ts : List Clause) (t : Clause)
    (a : AllSoFar n tokens ts rest) where
  on : (more : List Token) → ReadsOperand n rest t more → (b : Built) → length b.opened ≡ n
      → IsBare b.opened
      → read_from at_operand b tokens
      ≡ read_from behind_operand (record b { ands = append b.ands (clauses_of (ts ++ t ∷ [])) }) more
  on more g b m h =
      a.goes_on b m h ∙ g.goes_on (record b { ands = append b.ands (clauses_of ts) }) m
      ∙ ap (λ (x : Built). read_from behind_operand x more)
      (bare_operand (record b { ands = append b.ands (clauses_of ts) }) t h)
      ∙ ap (λ (x : Clauses). read_from behind_operand (record b { ands = x }) more)
      (sym (append-snoc b.ands (clauses_of ts) t) ∙ ap (append b.ands) (sym (snoc-clauses ts t)))

  pub all_goes_on : (after : List Token) → ReadsOperand n rest t (And ∷ after)
      → AllSoFar n tokens (ts ++ t ∷ []) after
  all_goes_on after g =
      record {
        goes_on = on (And ∷ after) g;
        shorter = let le = a.shorter in let lt = g.shorter in
            omega arith;
      }

  pub all_ends : (more : List Token) → ReadsOperand n rest t more → NoAnd more
      → ReadsConjunction n tokens (all_joined (clauses_of (ts ++ t ∷ []))) more
  all_ends more g h = record {
    members = clauses_of (ts ++ t ∷ []);
    joined = refl;
    goes_on = on more g;
    shorter = let le = a.shorter in let lt = g.shorter in omega arith;
    no_and = h;
  }

-- the same for "||"
pub record AnySoFar (n : ℕ) (tokens : List Token) (ts : List Clause) (rest : List Token) : Type 0 where
  pub goes_on : (os : Clauses) (st : List Opened) → length st ≡ n → IsBare st
      → read_from at_operand (record { ors = os; ands = no_clauses; opened = st }) tokens
      ≡ read_from at_operand (record { ors = append os (clauses_of ts); ands = no_clauses; opened = st }) rest
  pub shorter : length rest ≤ length tokens

module _ (n : ℕ) (tokens rest : List Token) (ts : List Clause) (t : Clause)
    (a : AnySoFar n tokens ts rest) where
  pub any_goes_on : (after : List Token) → ReadsConjunction n rest t (Or ∷ after)
      → AnySoFar n tokens (ts ++ t ∷ []) after
  any_goes_on after g = record {
    goes_on = λ os st m h.
        a.goes_on os st m h ∙ g.goes_on
        (record { ors = append os (clauses_of ts); ands = no_clauses; opened = st }) m h
        ∙ ap (λ (x : Clauses). read_from at_operand
        (record { ors = x; ands = no_clauses; opened = st }) after)
        (ap (snoc (append os (clauses_of ts))) (sym g.joined) ∙ sym (append-snoc os (clauses_of ts) t)
        ∙ ap (append os) (sym (snoc-clauses ts t)));
    shorter = let le = a.shorter in let lt = g.shorter in omega arith;
  }

  pub any_ends : (more : List Token) → ReadsConjunction n rest t more → NoOr more
      → ReadsDisjunction n tokens (any_joined (clauses_of (ts ++ t ∷ []))) more
  any_ends more g h = record {
    before = clauses_of ts;
    last = g.members;
    joined = ap any_joined (snoc-clauses ts t ∙ ap (snoc (clauses_of ts)) g.joined);
    goes_on = λ os st m k. a.goes_on os st m k
        ∙ g.goes_on (record { ors = append os (clauses_of ts); ands = no_clauses; opened = st }) m k;
    shorter = let le = a.shorter in let lt = g.shorter in omega arith;
    no_and = g.no_and;
    no_or = h;
  }

-- ---- the same of trees

pub any_of-several : (ts : List Clause) → (length ts ≡ 1 → ⊥) → 0 < length ts
    → any_of (clauses_of ts) ≡ any_joined (clauses_of ts)
any_of-several [] h k = absurd (omega arith)
any_of-several (t ∷ []) h k = absurd (h refl)
any_of-several (t ∷ u ∷ ts) h k = refl

pub all_of-several : (ts : List Clause) → (length ts ≡ 1 → ⊥) → 0 < length ts
    → all_of (clauses_of ts) ≡ all_joined (clauses_of ts)
all_of-several [] h k = absurd (omega arith)
all_of-several (t ∷ []) h k = absurd (h refl)
all_of-several (t ∷ u ∷ ts) h k = refl

no_and : (first : Token) (after : List Token) → (first ≡ And → ⊥) → NoAnd (first ∷ after)
no_and And after h = absurd (h refl)
no_and _ after h = tt

no_or : (first : Token) (after : List Token) → (first ≡ Or → ⊥) → NoOr (first ∷ after)
no_or Or after h = absurd (h refl)
no_or _ after h = tt

pub at_no_and : (first : Token) (after rest : List Token) → rest ≡ first ∷ after → (first ≡ And → ⊥)
    → NoAnd rest
at_no_and first after rest e h = subst NoAnd (sym e) (no_and first after h)

pub at_no_or : (first : Token) (after rest : List Token) → rest ≡ first ∷ after → (first ≡ Or → ⊥) → NoOr rest
at_no_or first after rest e h = subst NoOr (sym e) (no_or first after h)

pub empty_no_and : (rest : List Token) → rest ≡ [] → NoAnd rest
empty_no_and rest e = subst NoAnd (sym e) tt

pub empty_no_or : (rest : List Token) → rest ≡ [] → NoOr rest
empty_no_or rest e = subst NoOr (sym e) tt

-- the trees, seen as their clauses
grown : (ts us : List Tree) (t : Tree) → us ≡ ts ++ t ∷ []
    → map clause_of us ≡ map clause_of ts ++ clause_of t ∷ []
grown ts us t e = ap (map clause_of) e ∙ map-append clause_of ts (t ∷ [])

module _ (n : ℕ) (tokens rest : List Token) (ts us : List Tree) (t : Tree) (e : us ≡ ts ++ t ∷ []) where
  pub all_on : (first : Token) (more after : List Token) → more ≡ first ∷ after → first ≡ And
      → AllSoFar n tokens (map clause_of ts) rest → ReadsOperand n rest (clause_of t) more
      → AllSoFar n tokens (map clause_of us) after
  all_on first more after p q a g =
      subst (λ (x : List Clause). AllSoFar n tokens x after) (sym (grown ts us t e))
      (all_goes_on n tokens rest (map clause_of ts) (clause_of t) a after
      (subst (λ (x : List Token). ReadsOperand n rest (clause_of t) x)
      (p ∙ ap (λ (x : Token). x ∷ after) q) g))

  pub all_end : (more : List Token) (x : Clause) → x ≡ all_joined (clauses_of (map clause_of us))
      → AllSoFar n tokens (map clause_of ts) rest → ReadsOperand n rest (clause_of t) more → NoAnd more
      → ReadsConjunction n tokens x more
  all_end more x p a g h =
      subst (λ (y : Clause). ReadsConjunction n tokens y more)
      (sym (p ∙ ap (λ (y : List Clause). all_joined (clauses_of y)) (grown ts us t e)))
      (all_ends n tokens rest (map clause_of ts) (clause_of t) a more g h)

  pub any_on : (first : Token) (more after : List Token) → more ≡ first ∷ after → first ≡ Or
      → AnySoFar n tokens (map clause_of ts) rest → ReadsConjunction n rest (clause_of t) more
      → AnySoFar n tokens (map clause_of us) after
  any_on first more after p q a g =
      subst (λ (x : List Clause). AnySoFar n tokens x after) (sym (grown ts us t e))
      (any_goes_on n tokens rest (map clause_of ts) (clause_of t) a after
      (subst (λ (x : List Token). ReadsConjunction n rest (clause_of t) x)
      (p ∙ ap (λ (x : Token). x ∷ after) q) g))

  pub any_end : (more : List Token) (x : Clause) → x ≡ any_joined (clauses_of (map clause_of us))
      → AnySoFar n tokens (map clause_of ts) rest → ReadsConjunction n rest (clause_of t) more → NoOr more
      → ReadsDisjunction n tokens x more
  any_end more x p a g h =
      subst (λ (y : Clause). ReadsDisjunction n tokens y more)
      (sym (p ∙ ap (λ (y : List Clause). any_joined (clauses_of y)) (grown ts us t e)))
      (any_ends n tokens rest (map clause_of ts) (clause_of t) a more g h)

pub all_begin : (n : ℕ) (tokens : List Token) (ts : List Tree) → ts ≡ []
    → AllSoFar n tokens (map clause_of ts) tokens
all_begin n tokens ts e =
    subst (λ (x : List Tree). AllSoFar n tokens (map clause_of x) tokens) (sym e) (record {
      goes_on = λ b m h. ap (λ (x : Clauses). read_from at_operand (record b { ands = x }) tokens)
          (sym (append-none b.ands));
      shorter = omega arith;
    })

pub any_begin : (n : ℕ) (tokens : List Token) (ts : List Tree) → ts ≡ []
    → AnySoFar n tokens (map clause_of ts) tokens
any_begin n tokens ts e =
    subst (λ (x : List Tree). AnySoFar n tokens (map clause_of x) tokens) (sym e) (record {
      goes_on = λ os st m h. ap
          (λ (x : Clauses). read_from at_operand (record { ors = x; ands = no_clauses; opened = st }) tokens)
          (sym (append-none os));
      shorter = omega arith;
    })

-- ---- all tokens

pub reads_all : (ts rest : List Token) (t : Clause) → ReadsDisjunction 0 ts t rest → Ok tt ≡ all_read rest
    → clause_of_tokens ts ≡ Ok t
reads_all ts [] t r e = r.goes_on no_clauses [] refl tt ∙ ap Ok (sym r.joined)
reads_all ts (u ∷ rest) t r e = cc

left_over : (b : Built) (rest : List Token) → b.opened ≡ [] → NoAnd rest → NoOr rest → (rest ≡ [] → ⊥)
    → read_from behind_operand b rest ≡ Err Unexpected
left_over b [] o p q h = absurd (h refl)
left_over b (And ∷ ts) o p q h = absurd p
left_over b (Or ∷ ts) o p q h = absurd q
left_over b (Close ∷ ts) o p q h = rw o refl
left_over b (_ ∷ ts) o p q h = refl

pub fails_left : (ts rest : List Token) (t : Clause) (f : WhenFault) → ReadsDisjunction 0 ts t rest
    → Err f ≡ all_read rest → Fails (failures.Fault f) (clause_of_tokens ts)
fails_left ts [] t f r e = cc
fails_left ts (u ∷ rest) t f r e =
    r.goes_on no_clauses [] refl tt
    ∙ left_over (record { ors = append no_clauses r.before; ands = r.last; opened = [] })
    (u ∷ rest) refl r.no_and r.no_or (λ n. cc)
    ∙ same_fault Unexpected f (sym e)
