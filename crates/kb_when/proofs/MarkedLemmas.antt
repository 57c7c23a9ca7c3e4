-- The value of a tree with separate marks equals that of the tree with its marks inside.
use Rattle.std.proofs.Common.{◌≡◌, ℕ, List, [], ◌∷◌, ◌++◌, Bool, drop, length, refl, sym, ◌∙◌, ap}
use Rattle.std.proofs.Common.{append_assoc, append-nil, map, not}
use Rattle.std.proofs.Common.{Result, Ok, Err, IfErr}
use Rattle.std.specs.Prelude.{◌&&◌, ◌||◌}
use Rattle.std.proofs.lemmas.List.{map-append}
use Rattle.kb_context.specs.Scopes.{Keys}
use Rattle.kb_when.specs.Clause as tree
use Rattle.kb_when.specs.Clause.{patterns_of, all_patterns}
use Rattle.kb_pattern.specs.declared.flags.Flags.{Flags}
use Rattle.kb_when.specs.declared.tree.Tree.{Tree}
use Rattle.kb_when.specs.declared.tree.Tree.TheFolds.{fold-roll-Tree}
use Rattle.kb_when.specs.declared.tree.Tree.TheOpen.{Tree-F}
use Rattle.kb_when.specs.declared.tree.Tree.TheVariants.{And, Or, rolls-And, rolls-Or}
use Rattle.kb_when.specs.Tree.{marked_step, marked_of, markeds_of, clause_of, clauses_of}
use Rattle.kb_pattern.specs.Pattern.{MarkedPattern}
use Rattle.kb_when.specs.Marked.{Marked, always, never, key, equals, compare, matches, member, not_of}
use Rattle.kb_when.specs.Marked.{all_of, any_of, Markeds, no_clauses, clause, tree_of, trees_of, patterns_in}
use Rattle.kb_when.specs.Marked.{all_patterns_in, marks_of, all_marks, marked_value}
use Rattle.kb_when.specs.Marked.{all_marked_hold, any_marked_holds}
use Rattle.kb_when.specs.Value.{value, all_hold, any_holds}

-- the pattern without its mark
abbrev pub plain : MarkedPattern → List ℕ × Flags
plain p = (p.text, p.flags)

-- the patterns of a tree are those of the clause with its marks inside
mutual
  pub patterns_seen : (m : Marked) → patterns_of (tree_of m) ≡ map plain (patterns_in m)
  patterns_seen always = refl
  patterns_seen never = refl
  patterns_seen (key k) = refl
  patterns_seen (equals k v) = refl
  patterns_seen (compare k o n) = refl
  patterns_seen (matches k p) = refl
  patterns_seen (member k other) = refl
  patterns_seen (not_of m) = patterns_seen m
  patterns_seen (all_of ms) = all_patterns_seen ms
  patterns_seen (any_of ms) = all_patterns_seen ms

  all_patterns_seen : (ms : Markeds) → all_patterns (trees_of ms) ≡ map plain (all_patterns_in ms)
  all_patterns_seen no_clauses = refl
  all_patterns_seen (clause m ms) =
      (λ i. patterns_seen m i ++ all_patterns_seen ms i)
      ∙ sym (map-append plain (patterns_in m) (all_patterns_in ms))

-- a clause has a mark for each of its patterns: behind as many the marks of the next clauses stand
behind_mapped : (ps : List MarkedPattern) (more : List Bool)
    → drop (length (map plain ps)) (map (λ p. p.unread) ps ++ more) ≡ more
behind_mapped [] more = refl
behind_mapped (p ∷ ps) more = behind_mapped ps more

behind_marks : (m : Marked) (more : List Bool)
    → drop (length (patterns_of (tree_of m))) (marks_of m ++ more) ≡ more
behind_marks m more =
    ap (λ (ps : List (List ℕ × Flags)). drop (length ps) (marks_of m ++ more)) (patterns_seen m)
    ∙ behind_mapped (patterns_in m) more

-- the marks of a clause, of the next ones, and more
marks_apart : (m : Marked) (ms : Markeds) (more : List Bool)
    → all_marks (clause m ms) ++ more ≡ marks_of m ++ (all_marks ms ++ more)
marks_apart m ms more =
    ap (λ (l : List Bool). l ++ more)
    (map-append (λ (p : MarkedPattern). p.unread) (patterns_in m) (all_patterns_in ms))
    ∙ append_assoc (marks_of m) (all_marks ms) more

-- the same value, whatever marks follow
mutual
  value_by : (keys : Keys) (m : Marked) (more : List Bool)
      → value keys (marks_of m ++ more) (tree_of m) ≡ marked_value keys m
  value_by keys always more = refl
  value_by keys never more = refl
  value_by keys (key k) more = refl
  value_by keys (equals k v) more = refl
  value_by keys (compare k o n) more = refl
  value_by keys (matches k p) more = refl
  value_by keys (member k other) more = refl
  value_by keys (not_of m) more = ap not (value_by keys m more)
  value_by keys (all_of ms) more = all_by keys ms more
  value_by keys (any_of ms) more = any_by keys ms more

  all_by : (keys : Keys) (ms : Markeds) (more : List Bool)
      → all_hold keys (all_marks ms ++ more) (trees_of ms) ≡ all_marked_hold keys ms
  all_by keys no_clauses more = refl
  all_by keys (clause m ms) more =
      ap (λ (l : List Bool).
      value keys l (tree_of m) && all_hold keys (drop (length (patterns_of (tree_of m))) l) (trees_of ms))
      (marks_apart m ms more)
      ∙ ap (λ (l : List Bool).
      value keys (marks_of m ++ (all_marks ms ++ more)) (tree_of m) && all_hold keys l (trees_of ms))
      (behind_marks m (all_marks ms ++ more))
      ∙ (λ i. value_by keys m (all_marks ms ++ more) i && all_by keys ms more i)

  any_by : (keys : Keys) (ms : Markeds) (more : List Bool)
      → any_holds keys (all_marks ms ++ more) (trees_of ms) ≡ any_marked_holds keys ms
  any_by keys no_clauses more = refl
  any_by keys (clause m ms) more =
      ap (λ (l : List Bool).
      value keys l (tree_of m) || any_holds keys (drop (length (patterns_of (tree_of m))) l) (trees_of ms))
      (marks_apart m ms more)
      ∙ ap (λ (l : List Bool).
      value keys (marks_of m ++ (all_marks ms ++ more)) (tree_of m) || any_holds keys l (trees_of ms))
      (behind_marks m (all_marks ms ++ more))
      ∙ (λ i. value_by keys m (all_marks ms ++ more) i || any_by keys ms more i)

pub value_beside : (keys : Keys) (m : Marked) → value keys (marks_of m) (tree_of m) ≡ marked_value keys m
value_beside keys m =
    ap (λ (l : List Bool). value keys l (tree_of m)) (sym (append-nil (marks_of m))) ∙ value_by keys m []

-- a fact that holds anyway, where there is an error
pub any_err : {A E : Type 0} (r : Result A E) (X : Type 0) → X → IfErr r (λ _. X)
any_err (Ok a) X x = tt {0}
any_err (Err e) X x = x

-- trees, seen as their clauses without marks
pub trees_seen : (ts : List Tree) → trees_of (markeds_of (map marked_of ts)) ≡ clauses_of (map clause_of ts)
trees_seen [] = refl
trees_seen (t ∷ ts) = ap (tree.clause (clause_of t)) (trees_seen ts)

pub and_seen : (ts : _) → clause_of (And ts) ≡ tree.all_of (clauses_of (map clause_of ts.items))
and_seen ts =
    ap clause_of (sym (rolls-And ts)) ∙ ap tree_of (fold-roll-Tree Marked marked_step (Tree-F.And ts))
    ∙ ap tree.all_of (trees_seen ts.items)

pub or_seen : (ts : _) → clause_of (Or ts) ≡ tree.any_of (clauses_of (map clause_of ts.items))
or_seen ts =
    ap clause_of (sym (rolls-Or ts)) ∙ ap tree_of (fold-roll-Tree Marked marked_step (Tree-F.Or ts))
    ∙ ap tree.any_of (trees_seen ts.items)
