-- The rule that matches pressed keystrokes.
use Rattle.std.specs.Prelude.{◌≡◌, ◌<◌, ◌⊎◌, List, [], ◌∷◌, ◌++◌, length, Bool, true, ◌&&◌, nat_lt}
use Rattle.std.specs.Prelude.{if◌then◌else◌, Option, None, Some, All}
use Rattle.std.specs.List.{Any}
use Rattle.std.specs.Option.{option_or}
use Rattle.kb_context.specs.Scopes.{Keys}
use Rattle.kb_when.specs.Marks.{when_holds, WhenHasReadPattern}
use Rattle.kb_keys.specs.declared.keystroke.Keystroke.{Keystroke}
use Rattle.kb_keys.specs.Chord.{begins_with}
use Rattle.kb_rules.specs.declared.rule.Rule.{Rule}
use Rattle.kb_resolve.specs.Enablements.{Enabling}
use Rattle.kb_resolve.specs.Resolved.{Resolution, found, more, nothing}

-- the rule's clause holds, and so does the enablement of its command
abbrev pub may_start : Keys → Enabling → Rule → Bool
may_start keys enablement rule =
    when_holds keys rule.when && when_holds keys (enablement rule.command)

-- the rule's keystrokes begin with the pressed ones, and its clause and the enablement of its command
-- hold; the origin of the rule doesn't matter
abbrev pub matches : Keys → Enabling → List Keystroke → Rule → Bool
matches keys enablement pressed rule =
    begins_with rule.chord pressed && may_start keys enablement rule

-- the rule's clause has a pattern that is read; or the clause holds, so the enablement of the rule's command
-- is evaluated, and that has a pattern
abbrev pub HasPatterns : Keys → Enabling → Rule → Type 0
HasPatterns keys enablement rule =
    WhenHasReadPattern rule.when
    ⊎ ((when_holds keys rule.when ≡ true) × WhenHasReadPattern (enablement rule.command))

-- the rule's keystrokes begin with the pressed ones, so a clause with a pattern is evaluated
abbrev pub AsksPattern : Keys → Enabling → List Keystroke → Rule → Type 0
AsksPattern keys enablement pressed rule =
    (begins_with rule.chord pressed ≡ true) × HasPatterns keys enablement rule

-- a clause with a pattern is evaluated for one of the rules, so memory may be refused
abbrev pub MayAskPatterns : List Keystroke → Keys → Enabling → List Rule → Type 0
MayAskPatterns pressed keys enablement rules = Any (AsksPattern keys enablement pressed) rules

-- the last rule that passes a test, or none
abbrev pub last_where : (Rule → Bool) → List Rule → Option Rule
last_where p [] = None
last_where p (rule ∷ below) = option_or (last_where p below) (if p rule then Some rule else None)

abbrev pub chosen : List Keystroke → Keys → Enabling → List Rule → Option Rule
chosen pressed keys enablement rules = last_where (matches keys enablement pressed) rules

-- a rule with more keystrokes waits for them
abbrev pub resolution_by : List Keystroke → Option Rule → Resolution
resolution_by pressed None = nothing
resolution_by pressed (Some rule) =
    if nat_lt (length pressed) (length rule.chord) then more else found rule

-- the result of a search for the pressed keystrokes, with the context keys that the focus sees
abbrev pub resolved : List Keystroke → Keys → Enabling → List Rule → Resolution
resolved pressed keys enablement rules = resolution_by pressed (chosen pressed keys enablement rules)

-- the rule's keystrokes are the pressed ones and maybe more, and its clause and the enablement of its
-- command hold
abbrev pub Matches : List Keystroke → Keys → Enabling → Rule → Type 0
Matches pressed keys enablement rule =
    (rest : List Keystroke) × (rule.chord ≡ pressed ++ rest) × (when_holds keys rule.when ≡ true)
    × (when_holds keys (enablement rule.command) ≡ true)

-- the rule matches, and no rule below it does
pub record IsLastMatch (pressed : List Keystroke) (keys : Keys) (enablement : Enabling)
    (rules : List Rule) (rule : Rule) : Type 0 where
  pub above : List Rule
  pub below : List Rule
  pub whole : rules ≡ above ++ rule ∷ below
  pub matching : Matches pressed keys enablement rule
  pub rest_fails : All (λ other. ¬ Matches pressed keys enablement other) below

-- the chosen rule is the last one that matches, and has exactly the pressed keystrokes or more; nothing
-- is found if no rule matches
abbrev pub IsGreatest : List Keystroke → Keys → Enabling → List Rule → Resolution → Type 0
IsGreatest pressed keys enablement rules (found rule) =
    IsLastMatch pressed keys enablement rules rule × (rule.chord ≡ pressed)
IsGreatest pressed keys enablement rules more =
    (rule : Rule) × IsLastMatch pressed keys enablement rules rule × (length pressed < length rule.chord)
IsGreatest pressed keys enablement rules nothing = All (λ rule. ¬ Matches pressed keys enablement rule) rules
