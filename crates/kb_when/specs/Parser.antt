-- What the functions of the parser return, by the state machine of `Reading`: how the machine continues
-- after the tokens that a function consumed, or the fault that it reaches.
use Rattle.std.specs.Prelude.{◌≡◌, ℕ, ◌<◌, ◌≤◌, Bool, true, false, List, [], ◌∷◌, Result, Ok, Err, ⊤, length}
use Rattle.kb_when.specs.declared.atom.Atom.{Atom}
use Rattle.kb_when.specs.declared.atom.Atom.TheVariants as atoms
use Rattle.kb_when.specs.declared.atom.Condition.{Condition}
use Rattle.kb_when.specs.declared.parser.Start.{Start}
use Rattle.kb_when.specs.declared.parser.Start.TheVariants as starts
use Rattle.kb_when.specs.declared.token.Token.{Token}
use Rattle.kb_when.specs.declared.token.Token.TheVariants.{Or, And, Not, Open, Close}
use Rattle.kb_when.specs.declared.fault.WhenFault.{WhenFault}
use Rattle.kb_when.specs.declared.fault.WhenFault.TheVariants.{Unexpected}
use Rattle.kb_base.specs.declared.failure.Failure.{Failure}
use Rattle.kb_base.specs.Failure.{Fails}
use Rattle.kb_when.specs.Clause.{Clause, always, never, key, equals, compare, matches, member, not_of}
use Rattle.kb_when.specs.Clause.{Clauses, no_clauses}
use Rattle.kb_pattern.specs.Pattern.{flags_of}
use Rattle.kb_when.specs.Grammar.{any_joined, all_joined}
use Rattle.kb_when.specs.Reading.{State, at_operand, behind_operand, Opened, bang, paren, Built, append}
use Rattle.kb_when.specs.Reading.{snoc}
use Rattle.kb_when.specs.Reading.{operand, read_from}

-- ---- atoms

abbrev pub clause_of_atom : Atom → Clause
clause_of_atom atoms.True = always
clause_of_atom atoms.False = never
clause_of_atom (atoms.Key k) = key k.now
clause_of_atom (atoms.Equals k v) = equals k.now v.now
clause_of_atom (atoms.Compare k o n) = compare k.now o n
clause_of_atom (atoms.Matches k p letters) = matches k.now p.now (flags_of letters.now)
clause_of_atom (atoms.Member k other) = member k.now other.now

abbrev pub negated_if : Bool → Clause → Clause
negated_if true t = not_of t
negated_if false t = t

abbrev pub clause_of_condition : Condition → Clause
clause_of_condition c = negated_if c.negated (clause_of_atom c.atom)

-- ---- results without an allocation

-- from this state on, the machine ends with the fault, for anything built so far
abbrev pub FailsAt : State → List Token → WhenFault → Type 0
FailsAt s ts f = (b : Built) → read_from s b ts ≡ Err f

-- from this state on, the machine adds the clause of an atom as one more operand
pub record ReadsAtom (s : State) (ts : List Token) (t : Clause) (rest : List Token) : Type 0 where
  pub goes_on : (b : Built) → read_from s b ts ≡ read_from behind_operand (operand b t) rest
  pub shorter : length rest ≤ length ts

-- the tokens after the ")" that comes next
abbrev pub behind_close : List Token → Result (List Token) WhenFault
behind_close (Close ∷ ts) = Ok ts
behind_close _ = Err Unexpected

-- ---- results with allocations

-- one operand, inside `depth` "(" and "!"
pub record ReadsOperand (depth : ℕ) (ts : List Token) (t : Clause) (rest : List Token) : Type 0 where
  pub goes_on : (b : Built) → length b.opened ≡ depth
      → read_from at_operand b ts ≡ read_from behind_operand (operand b t) rest
  pub shorter : length rest < length ts

-- no "!" waits for its operand
abbrev pub IsBare : List Opened → Type 0
IsBare [] = Unit {0}
IsBare (bang ∷ st) = ⊥
IsBare (paren os an ∷ st) = Unit {0}

abbrev pub NoAnd : List Token → Type 0
NoAnd [] = Unit {0}
NoAnd (And ∷ ts) = ⊥
NoAnd (_ ∷ ts) = Unit {0}

abbrev pub NoOr : List Token → Type 0
NoOr [] = Unit {0}
NoOr (Or ∷ ts) = ⊥
NoOr (_ ∷ ts) = Unit {0}

-- operands joined by "&&", as many as there are
pub record ReadsConjunction (depth : ℕ) (ts : List Token) (t : Clause) (rest : List Token) : Type 0 where
  pub members : Clauses
  pub joined : t ≡ all_joined members
  pub goes_on : (b : Built) → length b.opened ≡ depth → IsBare b.opened
      → read_from at_operand b ts ≡ read_from behind_operand (record b { ands = append b.ands members }) rest
  pub shorter : length rest < length ts
  pub no_and : NoAnd rest

-- operands joined by "||", as many as there are
pub record ReadsDisjunction (depth : ℕ) (ts : List Token) (t : Clause) (rest : List Token) : Type 0 where
  pub before : Clauses
  pub last : Clauses
  pub joined : t ≡ any_joined (snoc before (all_joined last))
  pub goes_on : (os : Clauses) (st : List Opened) → length st ≡ depth → IsBare st
      → read_from at_operand (record { ors = os; ands = no_clauses; opened = st }) ts
      ≡ read_from behind_operand (record { ors = append os before; ands = last; opened = st }) rest
  pub shorter : length rest < length ts
  pub no_and : NoAnd rest
  pub no_or : NoOr rest

-- inside `depth` "(" and "!", the machine reaches this fault, or memory ran out
abbrev pub FailsOperand : ℕ → List Token → Failure WhenFault → Type 0
FailsOperand depth ts failure = (b : Built) → length b.opened ≡ depth
    → Fails failure (read_from at_operand b ts)

-- the same, if no "!" waits for its operand
abbrev pub FailsConjunction : ℕ → List Token → Failure WhenFault → Type 0
FailsConjunction depth ts failure =
    (b : Built) → length b.opened ≡ depth → IsBare b.opened → Fails failure (read_from at_operand b ts)

-- the same, if no operand of "&&" comes before
abbrev pub FailsDisjunction : ℕ → List Token → Failure WhenFault → Type 0
FailsDisjunction depth ts failure = (os : Clauses) (st : List Opened) → length st ≡ depth → IsBare st
    → Fails failure (read_from at_operand (record { ors = os; ands = no_clauses; opened = st }) ts)

-- The beginning of an operand: a "!" or a "(", with fewer than 64 open; or a complete atom.
abbrev pub Begins : ℕ → List Token → Start → List Token → Type 0
Begins depth ts starts.Not rest = (ts ≡ Not ∷ rest) × (depth < 64)
Begins depth ts starts.Open rest = (ts ≡ Open ∷ rest) × (depth < 64)
Begins depth ts (starts.Atom c) rest = ReadsOperand depth ts (clause_of_condition c) rest

-- no operand begins here: the machine ends with the fault
abbrev pub FailsToBegin : ℕ → List Token → WhenFault → Type 0
FailsToBegin depth ts f = (b : Built) → length b.opened ≡ depth → read_from at_operand b ts ≡ Err f

-- no token is left
abbrev pub all_read : List Token → Result ⊤ WhenFault
all_read [] = Ok tt
all_read (t ∷ ts) = Err Unexpected
