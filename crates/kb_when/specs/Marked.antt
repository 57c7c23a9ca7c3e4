-- The tree of a clause with the mark of each pattern inside it, as the program stores it. Contracts see
-- the tree, and separately the marks in the order of the text.
use Rattle.std.specs.Prelude.{ℕ, ℤ, List, [], ◌∷◌, ◌++◌, map, Bool, true, false, not, ◌&&◌, ◌||◌}
use Rattle.std.specs.FinMap.{get}
use Rattle.kb_context.specs.Scopes.{Keys}
use Rattle.kb_when.specs.declared.operator.Operator.{Operator}
use Rattle.kb_pattern.specs.Pattern.{MarkedPattern}
use Rattle.kb_when.specs.Clause as tree
use Rattle.kb_when.specs.Clause.{Clause, Clauses}
use Rattle.kb_when.specs.Value.{key_holds, equals_holds, compare_holds, match_holds, member_holds}

mutual
  pub data Marked : Type 0 where
    always : Marked
    never : Marked
    key : List ℕ → Marked
    equals : List ℕ → List ℕ → Marked
    compare : List ℕ → Operator → ℤ → Marked
    matches : List ℕ → MarkedPattern → Marked
    member : List ℕ → List ℕ → Marked
    not_of : Marked → Marked
    all_of : Markeds → Marked
    any_of : Markeds → Marked

  pub data Markeds : Type 0 where
    no_clauses : Markeds
    clause : Marked → Markeds → Markeds

-- the tree without the marks
abbrev mutual
  pub tree_of : Marked → Clause
  tree_of always = tree.always
  tree_of never = tree.never
  tree_of (key k) = tree.key k
  tree_of (equals k v) = tree.equals k v
  tree_of (compare k o n) = tree.compare k o n
  tree_of (matches k p) = tree.matches k p.text p.flags
  tree_of (member k other) = tree.member k other
  tree_of (not_of m) = tree.not_of (tree_of m)
  tree_of (all_of ms) = tree.all_of (trees_of ms)
  tree_of (any_of ms) = tree.any_of (trees_of ms)

  pub trees_of : Markeds → Clauses
  trees_of no_clauses = tree.no_clauses
  trees_of (clause m ms) = tree.clause (tree_of m) (trees_of ms)

-- the patterns with their marks, in the order of the text
abbrev mutual
  pub patterns_in : Marked → List MarkedPattern
  patterns_in always = []
  patterns_in never = []
  patterns_in (key k) = []
  patterns_in (equals k v) = []
  patterns_in (compare k o n) = []
  patterns_in (matches k p) = p ∷ []
  patterns_in (member k other) = []
  patterns_in (not_of m) = patterns_in m
  patterns_in (all_of ms) = all_patterns_in ms
  patterns_in (any_of ms) = all_patterns_in ms

  pub all_patterns_in : Markeds → List MarkedPattern
  all_patterns_in no_clauses = []
  all_patterns_in (clause m ms) = patterns_in m ++ all_patterns_in ms

-- only the marks
abbrev pub marks_of : Marked → List Bool
marks_of m = map (λ p. p.unread) (patterns_in m)

abbrev pub all_marks : Markeds → List Bool
all_marks ms = map (λ p. p.unread) (all_patterns_in ms)

-- the value, where each pattern has its own mark
abbrev mutual
  pub marked_value : Keys → Marked → Bool
  marked_value keys always = true
  marked_value keys never = false
  marked_value keys (key k) = key_holds (get keys k)
  marked_value keys (equals k v) = equals_holds (get keys k) v
  marked_value keys (compare k o n) = compare_holds (get keys k) o n
  marked_value keys (matches k p) = match_holds (get keys k) p
  marked_value keys (member k other) = member_holds (get keys k) (get keys other)
  marked_value keys (not_of m) = not (marked_value keys m)
  marked_value keys (all_of ms) = all_marked_hold keys ms
  marked_value keys (any_of ms) = any_marked_holds keys ms

  pub all_marked_hold : Keys → Markeds → Bool
  all_marked_hold keys no_clauses = true
  all_marked_hold keys (clause m ms) = marked_value keys m && all_marked_hold keys ms

  pub any_marked_holds : Keys → Markeds → Bool
  any_marked_holds keys no_clauses = false
  any_marked_holds keys (clause m ms) = marked_value keys m || any_marked_holds keys ms
