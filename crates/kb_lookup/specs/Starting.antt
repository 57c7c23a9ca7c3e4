-- The keystrokes that start a command.
use Rattle.std.specs.Prelude.{◌≡◌, ◌&&◌, ◌++◌, ◌∷◌, [], if◌then◌else◌, ℕ, Bool, true, false, List}
use Rattle.std.specs.List.{list_all, list_any}
use Rattle.std.specs.Str.{bytes_eq}
use Rattle.kb_context.specs.Scopes.{Keys}
use Rattle.kb_keys.specs.Chord.{same_keys}
use Rattle.kb_keys.specs.declared.keystroke.Keystroke.{Keystroke}
use Rattle.kb_resolve.specs.Enablements.{Enabling}
use Rattle.kb_resolve.specs.Resolved.{Resolution, found, more, nothing}
use Rattle.kb_resolve.specs.Resolver.{resolved}
use Rattle.kb_rules.specs.declared.rule.Rule.{Rule}
use Rattle.kb_when.specs.Marks.{when_holds}

-- the search finds a rule of the command
abbrev pub finds : List ℕ → Resolution → Bool
finds command (found rule) = bytes_eq rule.command command
finds command more = false
finds command nothing = false

-- the rule has the command, its clause holds, and its keystrokes find a rule of the command
abbrev pub is_start : Keys → Enabling → List Rule → List ℕ → Rule → Bool
is_start keys enabling rules command rule =
    bytes_eq rule.command command && when_holds keys rule.when
    && finds command (resolved rule.chord keys enabling rules)

-- one of the rules has these keystrokes
abbrev pub has_chord : List Rule → List Keystroke → Bool
has_chord rules chord = list_any (λ rule. same_keys rule.chord chord) rules

-- a rule behind others, if none of them has its keystrokes
abbrev pub with_new : Rule → List Rule → List Rule
with_new rule made = if has_chord made rule.chord then made else made ++ rule ∷ []

-- those that pass a test, from the bottom to the top, each keystrokes once
abbrev pub from_below : (Rule → Bool) → List Rule → List Rule
from_below test [] = []
from_below test (rule ∷ below) =
    if test rule then with_new rule (from_below test below) else from_below test below

-- the rules that start the command, the lowest first
abbrev pub keys_of : Keys → Enabling → List Rule → List ℕ → List Rule
keys_of keys enabling rules command = from_below (is_start keys enabling rules command) rules

-- each of them is one whose keystrokes find a rule of the command, and all such keystrokes are among them
pub record AreKeysOf (keys : Keys) (enabling : Enabling) (rules : List Rule) (command : List ℕ)
    : Type 0 where
  pub each_starts : list_all (λ rule. finds command (resolved rule.chord keys enabling rules))
      (keys_of keys enabling rules command) ≡ true
  pub all_are_there : (chord : List Keystroke)
      → finds command (resolved chord keys enabling rules) ≡ true
      → has_chord (keys_of keys enabling rules command) chord ≡ true
