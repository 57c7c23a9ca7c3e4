-- The effect of a key press on the open chord.
use Rattle.std.specs.Prelude.{List, [], ◌∷◌, ◌++◌}
use Rattle.kb_context.specs.Scopes.{Keys}
use Rattle.kb_keys.specs.declared.keystroke.Keystroke.{Keystroke}
use Rattle.kb_rules.specs.declared.rule.Rule.{Rule}
use Rattle.kb_resolve.specs.Enablements.{Enabling}
use Rattle.kb_resolve.specs.Pressed as press
use Rattle.kb_resolve.specs.Pressed.{Step}
use Rattle.kb_resolve.specs.Resolved.{Resolution, found, more, nothing}
use Rattle.kb_resolve.specs.Resolver.{resolved}

-- a press that matches no rule is unbound if no chord is open; otherwise it ends the chord
abbrev pub unmatched_step : List Keystroke → Step
unmatched_step [] = press.unbound
unmatched_step (stroke ∷ strokes) = press.left

-- the result of a press after these keystrokes, by the result of the search
abbrev pub step_by : List Keystroke → Resolution → Step
step_by before (found rule) = press.start rule
step_by before more = press.more
step_by before nothing = unmatched_step before

-- the keystrokes of the chord afterwards, by the result of the search
abbrev pub kept_by : List Keystroke → Resolution → List Keystroke
kept_by strokes (found rule) = []
kept_by strokes more = strokes
kept_by strokes nothing = []

-- the result of a press, with the context keys that the focus sees and the enablements of commands
abbrev pub step : List Keystroke → Keystroke → Keys → Enabling → List Rule → Step
step before stroke keys enablement rules =
    step_by before (resolved (before ++ stroke ∷ []) keys enablement rules)

-- the keystrokes of the open chord after a press
abbrev pub pressed_after : List Keystroke → Keystroke → Keys → Enabling → List Rule → List Keystroke
pressed_after before stroke keys enablement rules =
    kept_by (before ++ stroke ∷ []) (resolved (before ++ stroke ∷ []) keys enablement rules)
