-- The grammar of clauses as inductive relations: which clause a prefix of the tokens denotes, and which
-- tokens are left.
use Rattle.std.specs.Prelude.{◌≡◌, ℕ, ℤ, suc, ◌<◌, List, [], ◌∷◌, false, Some}
use Rattle.kb_when.specs.declared.operator.Operator.{Operator}
use Rattle.kb_when.specs.declared.token.Token.{Token}
use Rattle.kb_when.specs.declared.token.Token.TheVariants.{Or, And, Not, Open, Close, Equal, Unequal}
use Rattle.kb_when.specs.declared.token.Token.TheVariants.{Comparison, Like, Word, Quoted, Pattern}
use Rattle.kb_when.specs.Number.{number_of}
use Rattle.kb_when.specs.Clause.{Clause, always, never, key, equals, compare, matches, member, not_of}
use Rattle.kb_when.specs.Clause.{all_of, any_of, Clauses, no_clauses, clause}
use Rattle.kb_pattern.specs.Pattern.{flags_of}
use Rattle.kb_when.specs.Words.{the_true, the_false, the_in, the_not, is_reserved, is_equal, is_unequal}

-- a single clause is itself, and several are joined; the grammar gives at least one
abbrev pub any_joined : Clauses → Clause
any_joined no_clauses = any_of no_clauses
any_joined (clause t no_clauses) = t
any_joined (clause t (clause u us)) = any_of (clause t (clause u us))

abbrev pub all_joined : Clauses → Clause
all_joined no_clauses = all_of no_clauses
all_joined (clause t no_clauses) = t
all_joined (clause t (clause u us)) = all_of (clause t (clause u us))

-- the key k and the tokens after it
pub data KeyTail (k : List ℕ) : List Token → Clause → List Token → Type 0 where
  alone : {rest : List Token} → KeyTail k rest (key k) rest
  equal_word : {rest : List Token} (v : List ℕ) → KeyTail k (Equal ∷ Word v ∷ rest) (is_equal k v) rest
  equal_quoted : {rest : List Token} (v : List ℕ) → KeyTail k (Equal ∷ Quoted v ∷ rest) (equals k v) rest
  unequal_word : {rest : List Token} (v : List ℕ) → KeyTail k (Unequal ∷ Word v ∷ rest) (is_unequal k v) rest
  unequal_quoted : {rest : List Token} (v : List ℕ)
      → KeyTail k (Unequal ∷ Quoted v ∷ rest) (not_of (equals k v)) rest
  compared : {rest : List Token} (o : Operator) (w : List ℕ) (n : ℤ) → number_of w ≡ Some n
      → KeyTail k (Comparison o ∷ Word w ∷ rest) (compare k o n) rest
  matched : {rest : List Token} (p letters : List ℕ)
      → KeyTail k (Like ∷ Pattern p letters ∷ rest) (matches k p (flags_of letters)) rest
  among : {rest : List Token} (other : List ℕ) → is_reserved other ≡ false
      → KeyTail k (Word the_in ∷ Word other ∷ rest) (member k other) rest
  not_among : {rest : List Token} (other : List ℕ) → is_reserved other ≡ false
      → KeyTail k (Word the_not ∷ Word the_in ∷ Word other ∷ rest) (not_of (member k other)) rest

-- Inside `depth` "(" and "!": operands joined by "||", operands joined by "&&", and a single operand.
mutual
  pub data Disjuncts : ℕ → List Token → Clauses → List Token → Type 0 where
    last_or : {depth : ℕ} {ts rest : List Token} {cs : Clauses} → Conjuncts depth ts cs rest
        → Disjuncts depth ts (clause (all_joined cs) no_clauses) rest
    more_or : {depth : ℕ} {ts us rest : List Token} {cs ds : Clauses} → Conjuncts depth ts cs (Or ∷ us)
        → Disjuncts depth us ds rest → Disjuncts depth ts (clause (all_joined cs) ds) rest

  pub data Conjuncts : ℕ → List Token → Clauses → List Token → Type 0 where
    last_and : {depth : ℕ} {ts rest : List Token} {t : Clause} → Operand depth ts t rest
        → Conjuncts depth ts (clause t no_clauses) rest
    more_and : {depth : ℕ} {ts us rest : List Token} {t : Clause} {cs : Clauses}
        → Operand depth ts t (And ∷ us) → Conjuncts depth us cs rest → Conjuncts depth ts (clause t cs) rest

  pub data Operand : ℕ → List Token → Clause → List Token → Type 0 where
    negated : {depth : ℕ} {ts rest : List Token} {t : Clause} → depth < 64 → Operand (suc depth) ts t rest
        → Operand depth (Not ∷ ts) (not_of t) rest
    enclosed : {depth : ℕ} {ts rest : List Token} {cs : Clauses} → depth < 64
        → Disjuncts (suc depth) ts cs (Close ∷ rest) → Operand depth (Open ∷ ts) (any_joined cs) rest
    truth : {depth : ℕ} {rest : List Token} → Operand depth (Word the_true ∷ rest) always rest
    falsity : {depth : ℕ} {rest : List Token} → Operand depth (Word the_false ∷ rest) never rest
    keyed : {depth : ℕ} {ts rest : List Token} {t : Clause} (k : List ℕ) → is_reserved k ≡ false
        → KeyTail k ts t rest → Operand depth (Word k ∷ ts) t rest

-- all of the tokens together denote the clause
pub record IsClause (tokens : List Token) (t : Clause) : Type 0 where
  pub members : Clauses
  pub joined : t ≡ any_joined members
  pub derived : Disjuncts 0 tokens members []
