-- The search for the innermost scope that has a key.
use Rattle.std.proofs.Common.{◌≡◌, ◌+◌, ◌-◌, ◌<◌, ℕ, suc, List, true, false, None, Some, arith, refl}
use Rattle.std.specs.Prelude.{is_some, slice_get}
use Rattle.std.specs.FinMap.{get}
use Rattle.kb_context.specs.declared.scope_tree.Scope.{Scope}
use Rattle.kb_context.specs.Scopes.{seat_from}

module _ (ss : List Scope) (key : List ℕ) (n i at : ℕ) (below : i < n) where
  more : n - i ≡ suc (n - (i + 1))
  more = omega arith

  -- there is no scope at the index
  pub seat_outside : slice_get ss at ≡ None → seat_from ss (n - i) at key ≡ None
  seat_outside e = rw (more, e) refl

  module _ (s : Scope) (e : slice_get ss at ≡ Some s) where
    -- the scope has the key
    pub seat_here : is_some (get s.keys key) ≡ true → seat_from ss (n - i) at key ≡ Some at
    seat_here h = rw (more, e, h) refl

    -- it lacks the key, and is the outermost one
    pub seat_nowhere : is_some (get s.keys key) ≡ false → s.parent ≡ None → seat_from ss (n - i) at key ≡ None
    seat_nowhere h p = rw (more, e, h, p) refl

    -- it lacks the key, and the search goes on at the scope around it
    pub seat_further : (parent : ℕ) → is_some (get s.keys key) ≡ false → s.parent ≡ Some parent
        → seat_from ss (n - i) at key ≡ seat_from ss (n - (i + 1)) parent key
    seat_further parent h p = rw (more, e, h, p) refl

pub ruleset seats = (seat_outside, seat_here, seat_nowhere, seat_further)
