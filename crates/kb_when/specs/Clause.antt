-- The tree of a clause, as contracts see it.
use Rattle.std.specs.Prelude.{ℕ, ℤ, List, [], ◌∷◌, ◌++◌}
use Rattle.kb_pattern.specs.declared.flags.Flags.{Flags}
use Rattle.kb_when.specs.declared.operator.Operator.{Operator}

mutual
  -- The clauses `true` and `false`; atoms over a key, with names and texts as bytes; and combinations of
  -- clauses. `all_of` (`&&`) and `any_of` (`||`) have two or more members, in the order of the text.
  pub data Clause : Type 0 where
    always : Clause
    never : Clause
    key : List ℕ → Clause
    equals : List ℕ → List ℕ → Clause
    compare : List ℕ → Operator → ℤ → Clause
    matches : List ℕ → List ℕ → Flags → Clause
    member : List ℕ → List ℕ → Clause
    not_of : Clause → Clause
    all_of : Clauses → Clause
    any_of : Clauses → Clause

  pub data Clauses : Type 0 where
    no_clauses : Clauses
    clause : Clause → Clauses → Clauses

-- the patterns of a clause with their flags, in the order of the text
abbrev mutual
  pub patterns_of : Clause → List (List ℕ × Flags)
  patterns_of always = []
  patterns_of never = []
  patterns_of (key k) = []
  patterns_of (equals k v) = []
  patterns_of (compare k o n) = []
  patterns_of (matches k p f) = (p, f) ∷ []
  patterns_of (member k other) = []
  patterns_of (not_of t) = patterns_of t
  patterns_of (all_of ts) = all_patterns ts
  patterns_of (any_of ts) = all_patterns ts

  pub all_patterns : Clauses → List (List ℕ × Flags)
  all_patterns no_clauses = []
  all_patterns (clause t ts) = patterns_of t ++ all_patterns ts
