-- What a press passes over before the rule that it takes.
use Rattle.std.specs.Prelude.{◌≡◌, true, false, List, [], ◌∷◌, Bool, if◌then◌else◌, filter, reverse}
use Rattle.std.specs.Prelude.{Option, None, Some}
use Rattle.kb_context.specs.Scopes.{Keys}
use Rattle.kb_explain.specs.Cause.{cause_data, Fails, IsCauseOf}
use Rattle.kb_explain.specs.declared.press.Obstacle.{Obstacle}
use Rattle.kb_explain.specs.declared.press.Obstacle.TheVariants.{Clause, Enablement}
use Rattle.kb_explain.specs.declared.press.Passed.{Passed}
use Rattle.kb_keys.specs.Chord.{begins_with}
use Rattle.kb_keys.specs.declared.keystroke.Keystroke.{Keystroke}
use Rattle.kb_resolve.specs.Enablements.{Enabling}
use Rattle.kb_resolve.specs.Resolver.{may_start}
use Rattle.kb_rules.specs.declared.rule.Rule.{Rule}
use Rattle.kb_when.specs.Marks.{when_holds}

-- those before the first that passes a test
abbrev pub before_first : (Rule → Bool) → List Rule → List Rule
before_first test [] = []
before_first test (rule ∷ rules) = if test rule then [] else rule ∷ before_first test rules

-- the rules whose keystrokes begin with the pressed ones, from the bottom up, before the first that may start
abbrev pub passed_over : List Keystroke → Keys → Enabling → List Rule → List Rule
passed_over pressed keys enablement rules =
    before_first (may_start keys enablement) (filter (λ rule. begins_with rule.chord pressed) (reverse rules))

-- the rule's clause fails for this cause; or it holds, and the enablement of its command fails for this cause
abbrev pub IsObstacle : Keys → Enabling → Rule → Obstacle → Type 0
IsObstacle keys enablement rule (Clause c) =
    IsCauseOf keys rule.when (Some (cause_data c)) × (when_holds keys rule.when ≡ false)
    × Fails keys rule.when (Some (cause_data c))
IsObstacle keys enablement rule (Enablement c) =
    (when_holds keys rule.when ≡ true) × IsCauseOf keys (enablement rule.command) (Some (cause_data c))
    × (when_holds keys (enablement rule.command) ≡ false)
    × Fails keys (enablement rule.command) (Some (cause_data c))

-- what is said of the rule that is passed over is so
abbrev pub IsRightlyPassed : Keys → Enabling → Passed → Type 0
IsRightlyPassed keys enablement passed = IsObstacle keys enablement passed.rule.now passed.obstacle

-- there is no obstacle exactly if the rule may start
abbrev pub IsFirstObstacle : Keys → Enabling → Rule → Option Obstacle → Type 0
IsFirstObstacle keys enablement rule None = may_start keys enablement rule ≡ true
IsFirstObstacle keys enablement rule (Some obstacle) =
    (may_start keys enablement rule ≡ false) × IsObstacle keys enablement rule obstacle
