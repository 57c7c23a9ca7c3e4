-- The state machine that defines the parsing of tokens. It goes from left to right and builds the clause,
-- or stops at the first fault. It is our decision.
use Rattle.std.specs.Prelude.{ℕ, ℤ, List, [], ◌∷◌, Bool, true, false, Option, Some, None, Result, Ok, Err}
use Rattle.std.specs.Prelude.{length, nat_lt, if◌then◌else◌}
use Rattle.std.specs.Str.{bytes_eq}
use Rattle.kb_when.specs.declared.operator.Operator.{Operator}
use Rattle.kb_when.specs.declared.token.Token.{Token}
use Rattle.kb_when.specs.declared.token.Token.TheVariants.{Or, And, Not, Open, Close, Equal, Unequal}
use Rattle.kb_when.specs.declared.token.Token.TheVariants.{Comparison, Like, Word, Quoted, Pattern}
use Rattle.kb_when.specs.declared.fault.WhenFault.{WhenFault}
use Rattle.kb_when.specs.declared.fault.WhenFault.TheVariants.{Unexpected, TooDeep, BadNumber}
use Rattle.kb_when.specs.Number.{number_of}
use Rattle.kb_when.specs.Clause.{Clause, always, never, key, equals, compare, matches, member, not_of}
use Rattle.kb_when.specs.Clause.{Clauses, no_clauses, clause}
use Rattle.kb_pattern.specs.Pattern.{flags_of}
use Rattle.kb_when.specs.Words.{the_true, the_false, the_in, the_not, is_reserved, is_equal, is_unequal}
use Rattle.kb_when.specs.Grammar.{any_joined, all_joined}

-- The position of the machine: before an operand, or after one; after a key, or after a key and "not";
-- before a pattern; before the value of "==" (true) or "!=" (false); before the other key of "in" (true)
-- or "not in" (false); before a number.
pub data State : Type 0 where
  at_operand behind_operand : State
  behind_key behind_not at_pattern : List ℕ → State
  at_value at_other : Bool → List ℕ → State
  at_number : Operator → List ℕ → State

-- what is open: a "!" that waits for its operand, or a "(" with the operands of "||" and "&&" before it
pub data Opened : Type 0 where
  bang : Opened
  paren : Clauses → Clauses → Opened

-- The operands of "||" so far, those of "&&" after the last "||", and what is open, the newest first.
pub record Built : Type 0 where
  pub ors : Clauses
  pub ands : Clauses
  pub opened : List Opened

-- the next state and what is built, or a fault
abbrev pub Step : Type 0
Step = Result (State × Built) WhenFault

-- ---- what is built

abbrev pub append : Clauses → Clauses → Clauses
append no_clauses us = us
append (clause t ts) us = clause t (append ts us)

-- one more clause at the end
abbrev pub snoc : Clauses → Clause → Clauses
snoc ts t = append ts (clause t no_clauses)

-- the clause negated once for each "!" that waits, up to the newest "("
abbrev pub negated : List Opened → Clause → Clause
negated [] t = t
negated (bang ∷ st) t = negated st (not_of t)
negated (paren os an ∷ st) t = t

-- without the "!" that wait
abbrev pub strip : List Opened → List Opened
strip [] = []
strip (bang ∷ st) = strip st
strip (paren os an ∷ st) = paren os an ∷ st

-- one more operand, with the "!" before it applied
abbrev pub operand : Built → Clause → Built
operand b t = record { ors = b.ors; ands = snoc b.ands (negated b.opened t); opened = strip b.opened }

-- the operands of "||", including the current one
abbrev pub members : Built → Clauses
members b = snoc b.ors (all_joined b.ands)

-- after "||"
abbrev pub next_or : Built → Built
next_or b = record { ors = members b; ands = no_clauses; opened = b.opened }

abbrev pub nothing : List Opened → Built
nothing st = record { ors = no_clauses; ands = no_clauses; opened = st }

-- ---- one token, in each state

-- after an operand
abbrev pub ended : Built → Clause → Step
ended b t = Ok (behind_operand, operand b t)

-- after a ")": the clauses inside are one operand
abbrev pub closed : Clauses → List Opened → Step
closed ts [] = Err Unexpected
closed ts (bang ∷ st) = Err Unexpected
closed ts (paren os an ∷ st) = ended (record { ors = os; ands = an; opened = st }) (any_joined ts)

-- one more is open, if fewer than 64 were
abbrev pub within : Built → Built → Step
within b c = if nat_lt (length b.opened) 64 then Ok (at_operand, c) else Err TooDeep

abbrev pub step_at_operand : Built → Token → Step
step_at_operand b Open = within b (nothing (paren b.ors b.ands ∷ b.opened))
step_at_operand b Not = within b (record { ors = b.ors; ands = b.ands; opened = bang ∷ b.opened })
step_at_operand b (Word w) =
    if bytes_eq the_true w then ended b always
    else (if bytes_eq the_false w then ended b never
    else (if is_reserved w then Err Unexpected else Ok (behind_key w, b)))
step_at_operand b _ = Err Unexpected

abbrev pub step_behind_operand : Built → Token → Step
step_behind_operand b And = Ok (at_operand, b)
step_behind_operand b Or = Ok (at_operand, next_or b)
step_behind_operand b Close = closed (members b) b.opened
step_behind_operand b _ = Err Unexpected

abbrev pub step_behind_key : List ℕ → Built → Token → Step
step_behind_key k b Equal = Ok (at_value true k, b)
step_behind_key k b Unequal = Ok (at_value false k, b)
step_behind_key k b (Comparison o) = Ok (at_number o k, b)
step_behind_key k b Like = Ok (at_pattern k, b)
step_behind_key k b (Word w) =
    if bytes_eq the_in w then Ok (at_other true k, b)
    else (if bytes_eq the_not w then Ok (behind_not k, b) else Err Unexpected)
step_behind_key k b t = step_behind_operand (operand b (key k)) t

abbrev pub step_at_value : Bool → List ℕ → Built → Token → Step
step_at_value equal k b (Word v) = ended b (if equal then is_equal k v else is_unequal k v)
step_at_value equal k b (Quoted v) = ended b (if equal then equals k v else not_of (equals k v))
step_at_value equal k b _ = Err Unexpected

abbrev pub compared_with : Operator → List ℕ → Built → Option ℤ → Step
compared_with o k b (Some n) = ended b (compare k o n)
compared_with o k b None = Err BadNumber

abbrev pub step_at_number : Operator → List ℕ → Built → Token → Step
step_at_number o k b (Word w) = compared_with o k b (number_of w)
step_at_number o k b (Quoted v) = Err BadNumber
step_at_number o k b _ = Err Unexpected

abbrev pub step_at_pattern : List ℕ → Built → Token → Step
step_at_pattern k b (Pattern p letters) = ended b (matches k p (flags_of letters))
step_at_pattern k b _ = Err Unexpected

abbrev pub step_behind_not : List ℕ → Built → Token → Step
step_behind_not k b (Word w) = if bytes_eq the_in w then Ok (at_other false k, b) else Err Unexpected
step_behind_not k b _ = Err Unexpected

abbrev pub step_at_other : Bool → List ℕ → Built → Token → Step
step_at_other inside k b (Word w) =
    if is_reserved w then Err Unexpected else ended b (if inside then member k w else not_of (member k w))
step_at_other inside k b _ = Err Unexpected

abbrev pub step : State → Built → Token → Step
step at_operand = step_at_operand
step behind_operand = step_behind_operand
step (behind_key k) = step_behind_key k
step (behind_not k) = step_behind_not k
step (at_pattern k) = step_at_pattern k
step (at_value equal k) = step_at_value equal k
step (at_other inside k) = step_at_other inside k
step (at_number o k) = step_at_number o k

-- ---- all tokens

-- the whole clause, if nothing is open
abbrev pub whole : Clauses → List Opened → Result Clause WhenFault
whole ts [] = Ok (any_joined ts)
whole ts (o ∷ st) = Err Unexpected

-- the end of the tokens: an operand must come before it
abbrev pub at_end : State → Built → Result Clause WhenFault
at_end behind_operand b = whole (members b) b.opened
at_end (behind_key k) b = whole (members (operand b (key k))) (strip b.opened)
at_end _ b = Err Unexpected

abbrev pub go : Step → (State → Built → Result Clause WhenFault) → Result Clause WhenFault
go (Err f) rest = Err f
go (Ok p) rest = rest p.0 p.1

-- the clause of the tokens from this state on, or the first fault
abbrev pub read_from : State → Built → List Token → Result Clause WhenFault
read_from s b [] = at_end s b
read_from s b (t ∷ ts) = go (step s b t) (λ u c. read_from u c ts)

-- the clause of all tokens, or the first fault
abbrev pub clause_of_tokens : List Token → Result Clause WhenFault
clause_of_tokens = read_from at_operand (nothing [])
