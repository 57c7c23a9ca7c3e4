-- Why a clause fails: the literal at which it does.
use Rattle.std.specs.Prelude.{◌≡◌, Bool, true, false, not, if◌then◌else◌, Option, None, Some}
use Rattle.kb_context.specs.Scopes.{Keys}
use Rattle.kb_explain.specs.declared.cause.Cause.{Cause}
use Rattle.kb_explain.specs.declared.cause.Cause.TheVariants as cause
use Rattle.kb_when.specs.Leaf.{marked_of_leaf}
use Rattle.kb_when.specs.Marked as marked
use Rattle.kb_when.specs.Marked.{Marked, Markeds, marked_value}
use Rattle.kb_when.specs.Marks.{MarkedClause, beside, when_holds}

-- a cause as plain data: a constant, or an atom with the value that is wanted of it
pub data CauseData : Type 0 where
  never : CauseData
  literal : Marked → Bool → CauseData

abbrev pub cause_data : Cause → CauseData
cause_data cause.Never = never
cause_data (cause.Literal l) = literal (marked_of_leaf l.atom.now) l.wanted

-- the value is the wanted one
abbrev pub agrees : Bool → Bool → Bool
agrees true value = value
agrees false value = not value

-- no cause if the test holds, else this one
abbrev pub unless : Bool → CauseData → Option CauseData
unless true c = None
unless false c = Some c

abbrev pub cause_of_atom : Keys → Bool → Marked → Option CauseData
cause_of_atom keys wanted atom = unless (agrees wanted (marked_value keys atom)) (literal atom wanted)

-- the first cause of two, if there is one
abbrev pub either : Option CauseData → Option CauseData → Option CauseData
either None second = second
either (Some c) second = Some c

-- of two causes the first that names a literal
abbrev pub shown : Option CauseData → Option CauseData → Option CauseData
shown None second = second
shown (Some never) second = second
shown (Some (literal atom wanted)) second = Some (literal atom wanted)

-- the first cause of two that names a literal, if there are two
abbrev pub both : Option CauseData → Option CauseData → Option CauseData
both None second = None
both (Some c) None = None
both (Some c) (Some d) = shown (Some c) (Some d)

abbrev mutual
  -- why a clause isn't what is wanted, if it isn't: negations are pushed inward; of operands that all have
  -- to hold the first that fails counts; of operands of which one has to hold, all of which fail, the first
  -- one that isn't constant
  pub cause_in : Keys → Bool → Marked → Option CauseData
  cause_in keys wanted marked.always = unless (agrees wanted true) never
  cause_in keys wanted marked.never = unless (agrees wanted false) never
  cause_in keys wanted (marked.key k) = cause_of_atom keys wanted (marked.key k)
  cause_in keys wanted (marked.equals k v) = cause_of_atom keys wanted (marked.equals k v)
  cause_in keys wanted (marked.compare k o n) = cause_of_atom keys wanted (marked.compare k o n)
  cause_in keys wanted (marked.matches k p) = cause_of_atom keys wanted (marked.matches k p)
  cause_in keys wanted (marked.member k other) = cause_of_atom keys wanted (marked.member k other)
  cause_in keys wanted (marked.not_of m) = cause_in keys (not wanted) m
  cause_in keys wanted (marked.all_of ms) =
      if wanted then first_cause keys wanted ms else cause_of_all keys wanted ms
  cause_in keys wanted (marked.any_of ms) =
      if wanted then cause_of_all keys wanted ms else first_cause keys wanted ms

  pub first_cause : Keys → Bool → Markeds → Option CauseData
  first_cause keys wanted marked.no_clauses = None
  first_cause keys wanted (marked.clause m ms) = either (cause_in keys wanted m) (first_cause keys wanted ms)

  pub cause_of_all : Keys → Bool → Markeds → Option CauseData
  cause_of_all keys wanted marked.no_clauses = Some never
  cause_of_all keys wanted (marked.clause m ms) = both (cause_in keys wanted m) (cause_of_all keys wanted ms)

-- what a cause says of a test of contexts: the literal that it names doesn't hold; where it names none, the
-- test is false in every context
abbrev pub Explains : Keys → (Keys → Bool) → Option CauseData → Type 0
Explains keys test None = Unit {0}
Explains keys test (Some never) = (others : Keys) → test others ≡ false
Explains keys test (Some (literal atom wanted)) = agrees wanted (marked_value keys atom) ≡ false

-- the same of a clause
unfoldable pub Fails : Keys → Option MarkedClause → Option CauseData → Type 0
Fails keys clause c = Explains keys (λ others. when_holds others clause) c

-- why a clause fails, by its tree with the marks of its patterns
abbrev pub IsCauseOf : Keys → Option MarkedClause → Option CauseData → Type 0
IsCauseOf keys None c = c ≡ None
IsCauseOf keys (Some clause) c = (m : Marked) × (beside m ≡ clause) × (c ≡ cause_in keys true m)

-- ---- for private functions

-- what a first cause, if there is one, makes of what the others give
abbrev pub led_by : Option CauseData → Option CauseData → Option CauseData
led_by None others = others
led_by (Some c) others = both (Some c) others
