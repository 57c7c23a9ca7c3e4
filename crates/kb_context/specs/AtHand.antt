-- What the focus sees, at hand: a flat map of the innermost scopes, and the sights.
use Rattle.std.specs.Prelude.{◌≡◌, ℕ, ◌+◌, ◌<◌, ◌≤◌, ◌^◌, List, length, Option, Some, IfSome}
use Rattle.kb_context.specs.declared.at_hand.AtHand.{AtHand}
use Rattle.kb_context.specs.Scopes.{ScopesData, context, IsFlat, IsFlatBut}
use Rattle.kb_context.specs.Sights.{TellsSeen, TellsSeenBut}

-- it is what the focus sees
pub record IsAtHand (s : ScopesData) (a : AtHand) : Type 0 where
  pub flat : IsFlat s a.flat
  pub tells : TellsSeen (context s) a.sights.items

-- the same of each key but this one
pub record IsAtHandBut (s : ScopesData) (a : AtHand) (key : List ℕ) : Type 0 where
  pub flat : IsFlatBut s a.flat key
  pub tells : TellsSeenBut (context s) a.sights.items key

-- The invariant: it has a sight for each hash. It was made at the present revision or before, never at the
-- largest one, and it is what the focus sees if it was made at the present one.
pub record IsAtHandFor (s : ScopesData) (a : AtHand) (made_at : Option ℕ) (revision : ℕ) : Type 0 where
  pub room : length a.sights.items ≡ 1024
  pub before : IfSome made_at (λ r. (r ≤ revision) × (r + 1 < 2 ^ 64))
  pub same : made_at ≡ Some revision → IsAtHand s a
