-- Rules that can never start, since the first of their keystrokes never open a chord.
use Rattle.std.specs.Prelude.{◌≡◌, ℕ, ◌<◌, List, [], ◌∷◌, ◌++◌, Some, length, slice_get}
use Rattle.kb_context.specs.Scopes.{Keys}
use Rattle.kb_keys.specs.declared.keystroke.Keystroke.{Keystroke}
use Rattle.kb_resolve.specs.Enablements.{Enabling}
use Rattle.kb_resolve.specs.Resolved.{more}
use Rattle.kb_resolve.specs.Resolver.{IsGreatest}
use Rattle.kb_rules.specs.declared.rule.Rule.{Rule}
use Rattle.kb_lints.specs.Condition.{Covers}
use Rattle.kb_lints.specs.Shadow.{IsChosenAt}

-- a rule has these keystrokes and more
pub record IsLonger (strokes : List Keystroke) (rule : Rule) : Type 0 where
  pub rest : List Keystroke
  pub whole : rule.chord ≡ strokes ++ rest
  pub more : length strokes < length rule.chord

-- a rule at a position takes its keystrokes from another one at a place, if that has these and more: it is
-- below that one, and may start wherever that one may
abbrev pub IsTakenAt : Enabling → ℕ → Rule → ℕ → Rule → Type 0
IsTakenAt enablement position rule place other =
    IsLonger rule.chord other → (place < position) × Covers enablement rule other

-- a rule at a position takes its keystrokes from all rules that have these and more
abbrev pub TakesAll : Enabling → List Rule → ℕ → Rule → Type 0
TakesAll enablement rules position rule =
    (place : ℕ) (other : Rule) → slice_get rules place ≡ Some other
    → IsTakenAt enablement position rule place other

-- the rule at a position takes its keystrokes from all rules that have these and more
pub record IsTaking (enablement : Enabling) (rules : List Rule) (by : ℕ) : Type 0 where
  pub lower : Rule
  pub at : slice_get rules by ≡ Some lower
  pub takes_all : TakesAll enablement rules by lower

-- the rule at a position has the keystrokes of a lower one and more, and that one takes them from all such
-- rules
pub record IsCutOff (enablement : Enabling) (rules : List Rule) (position by : ℕ) : Type 0 where
  pub rule : Rule
  pub lower : Rule
  pub at : slice_get rules position ≡ Some rule
  pub lower_at : slice_get rules by ≡ Some lower
  pub some_keys : 0 < length lower.chord
  pub longer : IsLonger lower.chord rule
  pub takes_all : TakesAll enablement rules by lower

-- pressed keystrokes that wait for more: each of their beginnings opened or kept a chord in some context
abbrev pub Wait : Enabling → List Rule → List Keystroke → Type 0
Wait enablement rules pressed = (strokes after : List Keystroke) → pressed ≡ strokes ++ after
    → 0 < length strokes → (keys : Keys) × IsGreatest strokes keys enablement rules more

-- in no state that key presses lead to, and in no context, the next keystroke finds a rule that is cut off
abbrev pub CutOffNeverStart : Type 0
CutOffNeverStart = (enablement : Enabling) (rules : List Rule) (position by : ℕ)
    → IsCutOff enablement rules position by → (pressed : List Keystroke) (key : Keystroke) (keys : Keys)
    → Wait enablement rules pressed
    → (chosen : IsChosenAt enablement rules position (pressed ++ key ∷ []) keys)
    → ¬ (chosen.rule.chord ≡ pressed ++ key ∷ [])
