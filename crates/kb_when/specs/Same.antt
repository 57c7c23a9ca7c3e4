-- Equality of the trees of two clauses.
use Rattle.std.specs.Prelude.{ℕ, ℤ, List, Bool, true, false, ◌&&◌}
use Rattle.std.specs.Ordering.{int_eq}
use Rattle.std.specs.Str.{bytes_eq}
use Rattle.kb_when.specs.declared.operator.Operator.{Operator}
use Rattle.kb_when.specs.Operator.{operator_eq}
use Rattle.kb_when.specs.Clause.{Clause, always, never, key, equals, compare, matches, member, not_of}
use Rattle.kb_when.specs.Clause.{all_of, any_of, Clauses, no_clauses, clause}
use Rattle.kb_pattern.specs.Pattern.{same_flags}
use Rattle.kb_pattern.specs.declared.flags.Flags.{Flags}

abbrev pub is_always : Clause → Bool
is_always always = true
is_always _ = false

abbrev pub is_never : Clause → Bool
is_never never = true
is_never _ = false

abbrev pub is_key : List ℕ → Clause → Bool
is_key k (key l) = bytes_eq k l
is_key k _ = false

abbrev pub is_equals : List ℕ → List ℕ → Clause → Bool
is_equals k v (equals l w) = bytes_eq k l && bytes_eq v w
is_equals k v _ = false

abbrev pub is_compare : List ℕ → Operator → ℤ → Clause → Bool
is_compare k o n (compare l p m) = bytes_eq k l && (operator_eq o p && int_eq n m)
is_compare k o n _ = false

abbrev pub is_matches : List ℕ → List ℕ → Flags → Clause → Bool
is_matches k p f (matches l q g) = bytes_eq k l && (bytes_eq p q && same_flags f g)
is_matches k p f _ = false

abbrev pub is_member : List ℕ → List ℕ → Clause → Bool
is_member k v (member l w) = bytes_eq k l && bytes_eq v w
is_member k v _ = false

abbrev mutual
  pub same : Clause → Clause → Bool
  same always u = is_always u
  same never u = is_never u
  same (key k) u = is_key k u
  same (equals k v) u = is_equals k v u
  same (compare k o n) u = is_compare k o n u
  same (matches k p f) u = is_matches k p f u
  same (member k v) u = is_member k v u
  same (not_of t) (not_of u) = same t u
  same (not_of t) _ = false
  same (all_of ts) (all_of us) = same_all ts us
  same (all_of ts) _ = false
  same (any_of ts) (any_of us) = same_all ts us
  same (any_of ts) _ = false

  pub same_all : Clauses → Clauses → Bool
  same_all no_clauses no_clauses = true
  same_all no_clauses (clause u us) = false
  same_all (clause t ts) no_clauses = false
  same_all (clause t ts) (clause u us) = same t u && same_all ts us
