-- What the focus sees of a key.
use Rattle.std.specs.Prelude.{◌≡◌, ℕ, Bool, List, Option, Some, is_some, option_and_then, option_map}
use Rattle.std.specs.Prelude.{slice_get}
use Rattle.std.specs.FinMap.{get}
use Rattle.kb_context.specs.declared.scope_tree.Scope.{Scope}
use Rattle.kb_context.specs.Scopes.{ScopesData, context, seat}
use Rattle.kb_explain.specs.declared.seen.Seen.{Seen}

-- a scope has a key of its own
abbrev pub has_key : Scope → List ℕ → Bool
has_key scope key = is_some (get scope.keys key)

-- the name of the innermost scope that has a key, from the focus outward
abbrev pub holder : ScopesData → List ℕ → Option (List ℕ)
holder s key = option_and_then (λ at. option_map (λ scope. scope.name) (slice_get s.scopes at)) (seat s key)

-- the focus sees this value of the key, and it is that of this scope
pub record IsSeen (s : ScopesData) (seen : Seen) : Type 0 where
  pub value : get (context s) seen.key.now ≡ Some seen.value.now
  pub scope : holder s seen.key.now ≡ Some seen.scope.now
