-- Rules that can never start, since a lower one takes the same keystrokes whenever they would.
use Rattle.std.specs.Prelude.{◌≡◌, ℕ, ◌<◌, List, Some, length, slice_get}
use Rattle.kb_context.specs.Scopes.{Keys}
use Rattle.kb_keys.specs.declared.keystroke.Keystroke.{Keystroke}
use Rattle.kb_resolve.specs.Enablements.{Enabling}
use Rattle.kb_resolve.specs.Resolver.{IsLastMatch}
use Rattle.kb_rules.specs.declared.rule.Rule.{Rule}
use Rattle.kb_lints.specs.Condition.{Covers}

-- the rule at a position has a lower one at another position, with the same keystrokes, that may start
-- wherever it may
pub record IsShadowed (enablement : Enabling) (rules : List Rule) (position by : ℕ) : Type 0 where
  pub rule : Rule
  pub lower : Rule
  pub at : slice_get rules position ≡ Some rule
  pub lower_at : slice_get rules by ≡ Some lower
  pub is_lower : position < by
  pub same_keys : lower.chord ≡ rule.chord
  pub covers : Covers enablement lower rule

-- the rule at a position is the one that a search for the pressed keystrokes chooses
pub record IsChosenAt (enablement : Enabling) (rules : List Rule) (position : ℕ) (pressed : List Keystroke)
    (keys : Keys) : Type 0 where
  pub rule : Rule
  pub last : IsLastMatch pressed keys enablement rules rule
  pub is_there : length last.above ≡ position

-- no search chooses a shadowed rule, whatever is pressed and whatever the context
abbrev pub ShadowedNeverStart : Type 0
ShadowedNeverStart = (enablement : Enabling) (rules : List Rule) (position by : ℕ)
    → IsShadowed enablement rules position by → (pressed : List Keystroke) (keys : Keys)
    → ¬ IsChosenAt enablement rules position pressed keys
