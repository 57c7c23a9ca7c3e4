-- The keystrokes that go on from others.
use Rattle.std.specs.Prelude.{◌≡◌, ◌++◌, ◌∷◌, [], if◌then◌else◌, filter, length, slice_get}
use Rattle.std.specs.Prelude.{Bool, true, false, List, Option, None, Some}
use Rattle.std.specs.List.{list_any}
use Rattle.kb_context.specs.Scopes.{Keys}
use Rattle.kb_keys.specs.Chord.{begins_with}
use Rattle.kb_keys.specs.Keystroke.{same_stroke}
use Rattle.kb_keys.specs.declared.keystroke.Keystroke.{Keystroke}
use Rattle.kb_resolve.specs.Enablements.{Enabling}
use Rattle.kb_resolve.specs.Resolved.{Resolution, found, more, nothing}
use Rattle.kb_resolve.specs.Resolver.{resolved}
use Rattle.kb_rules.specs.declared.rule.Rule.{Rule}

-- the keystroke behind the pressed ones, if the chord begins with them and has more
abbrev pub next_key : List Keystroke → List Keystroke → Option Keystroke
next_key pressed chord = if begins_with chord pressed then slice_get chord (length pressed) else None

abbrev pub has_key : List Keystroke → Keystroke → Bool
has_key made key = list_any (λ other. same_stroke other key) made

-- a keystroke behind others, unless it is one of them
abbrev pub with_key : Option Keystroke → List Keystroke → List Keystroke
with_key None made = made
with_key (Some key) made = if has_key made key then made else made ++ key ∷ []

-- those of the rules, from the bottom to the top, each once
abbrev pub next_keys : List Keystroke → List Rule → List Keystroke
next_keys pressed [] = []
next_keys pressed (rule ∷ below) = with_key (next_key pressed rule.chord) (next_keys pressed below)

abbrev pub is_something : Resolution → Bool
is_something (found rule) = true
is_something more = true
is_something nothing = false

-- a search for the pressed keystrokes with one more behind them finds something
abbrev pub goes_on : Keys → Enabling → List Rule → List Keystroke → Keystroke → Bool
goes_on keys enabling rules pressed key = is_something (resolved (pressed ++ key ∷ []) keys enabling rules)

-- the next keystrokes of rules behind which a search finds something
abbrev pub continuations : Keys → Enabling → List Rule → List Keystroke → List Keystroke
continuations keys enabling rules pressed =
    filter (goes_on keys enabling rules pressed) (next_keys pressed rules)

-- all keystrokes behind which a search finds something are among them
abbrev pub AllGoOn : Keys → Enabling → List Rule → List Keystroke → Type 0
AllGoOn keys enabling rules pressed = (key : Keystroke) → goes_on keys enabling rules pressed key ≡ true
    → has_key (continuations keys enabling rules pressed) key ≡ true
