-- What a press does.
use Rattle.std.proofs.Common.{◌≡◌, ◌++◌, ◌<◌, ◌≤◌, List, [], ◌∷◌, length, length-append, ◌∙◌, refl, ap, arith}
use Rattle.std.specs.Prelude.{Option}
use Rattle.kb_context.specs.Scopes.{Keys}
use Rattle.kb_keys.specs.declared.keystroke.Keystroke.{Keystroke}
use Rattle.kb_resolve.specs.ChordState.{step, step_by, unmatched_step}
use Rattle.kb_resolve.specs.Enablements.{Enabling}
use Rattle.kb_resolve.specs.Pressed.{Step, left, unbound}
use Rattle.kb_resolve.specs.Resolver.{chosen, resolution_by, resolved}
use Rattle.kb_rules.specs.declared.rule.Rule.{Rule}

pub leaves : (before : List Keystroke) (stroke : Keystroke) (strokes : List Keystroke)
    → strokes ≡ before ++ stroke ∷ [] → 1 < length strokes → left ≡ unmatched_step before
leaves [] stroke strokes are many = absurd (omega (arith, ap length are))
leaves (first ∷ before) stroke strokes are many = refl

pub is_unbound : (before : List Keystroke) (stroke : Keystroke) (strokes : List Keystroke)
    → strokes ≡ before ++ stroke ∷ [] → length strokes ≤ 1 → unbound ≡ unmatched_step before
is_unbound [] stroke strokes are few = refl
is_unbound (first ∷ before) stroke strokes are few =
    absurd (omega (arith, ap length are, length-append (first ∷ before) (stroke ∷ [])))

pub ruleset unmatched = (leaves, is_unbound)

-- a press does what the engine's step does
pub press_steps : (before : List Keystroke) (stroke : Keystroke) (strokes : List Keystroke) (keys : Keys)
    (enabling : Enabling) (rules : List Rule) (taken : Option Rule) (does : Step)
    → strokes ≡ before ++ stroke ∷ [] → does ≡ step_by before (resolution_by strokes taken)
    → taken ≡ chosen strokes keys enabling rules → does ≡ step before stroke keys enabling rules
press_steps before stroke strokes keys enabling rules taken does are is chose =
    is ∙ ap (λ (t : Option Rule). step_by before (resolution_by strokes t)) chose
    ∙ ap (λ (ss : List Keystroke). step_by before (resolved ss keys enabling rules)) are
