-- A clause as contracts see it: its tree, and the marks of its patterns in the order of the text.
use Rattle.std.specs.Prelude.{◌≡◌, List, Bool, true, not, Option, Some, None, refl}
use Rattle.std.specs.List.{list_any}
use Rattle.std.specs.Coded.{Coded, code_by, coded×, coded_bool, coded_list}
use Rattle.kb_context.specs.Scopes.{Keys}
use Rattle.kb_when.specs.Clause.{Clause}
use Rattle.kb_when.specs.ClauseCode.{coded_clause}
use Rattle.kb_when.specs.Marked.{Marked, tree_of, marks_of}
use Rattle.kb_when.specs.Value.{value}

pub record MarkedClause : Type 0 where
  pub tree : Clause
  pub marks : List Bool

-- a pattern of the clause is not marked as unread, so a search for it may be refused memory
abbrev pub HasReadPattern : MarkedClause → Type 0
HasReadPattern c = list_any not c.marks ≡ true

-- ---- clauses that may be missing

-- the clause holds for these context keys, with the marks of its patterns; a missing clause holds
abbrev pub when_holds : Keys → Option MarkedClause → Bool
when_holds keys None = true
when_holds keys (Some c) = value keys c.marks c.tree

-- there is a clause, and a pattern of it is not marked as unread
abbrev pub WhenHasReadPattern : Option MarkedClause → Type 0
WhenHasReadPattern None = ⊥
WhenHasReadPattern (Some c) = HasReadPattern c

-- ---- how contracts see a clause

abbrev pub beside : Marked → MarkedClause
beside m = record { tree = tree_of m; marks = marks_of m }

abbrev pub coded_marked : Coded MarkedClause
coded_marked =
    code_by (Clause × List Bool) (coded× coded_clause (coded_list coded_bool)) (λ c. (c.tree, c.marks))
    (λ p. record { tree = p.0; marks = p.1 }) (λ _. refl)
