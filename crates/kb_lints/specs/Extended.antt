-- Rules that can never start, since lower rules have their keystrokes and more.
use Rattle.std.specs.Prelude.{◌≡◌, ℕ, ◌<◌, List, Some, slice_get}
use Rattle.kb_context.specs.Scopes.{Keys}
use Rattle.kb_keys.specs.declared.keystroke.Keystroke.{Keystroke}
use Rattle.kb_resolve.specs.Enablements.{Enabling}
use Rattle.kb_rules.specs.declared.rule.Rule.{Rule}
use Rattle.kb_lints.specs.Condition.{Covers}
use Rattle.kb_lints.specs.CutOff.{IsLonger}
use Rattle.kb_lints.specs.Shadow.{IsChosenAt}

-- the rule at a position has a lower one at another position, with its keystrokes and more, that may start
-- wherever it may
pub record IsExtended (enablement : Enabling) (rules : List Rule) (position by : ℕ) : Type 0 where
  pub rule : Rule
  pub lower : Rule
  pub at : slice_get rules position ≡ Some rule
  pub lower_at : slice_get rules by ≡ Some lower
  pub is_lower : position < by
  pub longer : IsLonger rule.chord lower
  pub covers : Covers enablement lower rule

-- no search chooses a rule that is extended, whatever is pressed and whatever the context
abbrev pub ExtendedNeverStart : Type 0
ExtendedNeverStart = (enablement : Enabling) (rules : List Rule) (position by : ℕ)
    → IsExtended enablement rules position by → (pressed : List Keystroke) (keys : Keys)
    → ¬ IsChosenAt enablement rules position pressed keys
