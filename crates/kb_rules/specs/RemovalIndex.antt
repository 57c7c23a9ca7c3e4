-- What an index of removals finds.
use Rattle.std.specs.Prelude.{◌≡◌, ℕ, List, [], ◌∷◌, ◌++◌, Bool, ◌||◌, not, map, filter, unwrap_or, bytes_eq}
use Rattle.std.specs.Option.{option_map_or}
use Rattle.std.specs.List.{list_any}
use Rattle.std.specs.HashMap.{get_by_text}
use Rattle.kb_keys.specs.declared.keystroke.Keystroke.{Keystroke}
use Rattle.kb_keys.specs.Chord.{chord_spelling}
use Rattle.kb_rules.specs.declared.removal.Removal.{Removal}
use Rattle.kb_rules.specs.declared.removal_index.RemovalIndex.{RemovalIndex}
use Rattle.kb_rules.specs.declared.rule.Rule.{Rule}
use Rattle.kb_rules.specs.Removal.{takes}

-- a command and keystrokes as one text
abbrev pub target : List ℕ → List Keystroke → List ℕ
target command keys = command ++ (32 ∷ chord_spelling keys)

-- the text of what a removal names: without keystrokes its command alone
abbrev pub target_of : Removal → List ℕ
target_of removal = target removal.command (unwrap_or removal.chord [])

-- the removals that the index has under a text
abbrev pub found : RemovalIndex → List ℕ → List Removal
found index text =
    option_map_or (λ removals. map (λ r. r.value) removals.items) (get_by_text index.table text) []

-- the index has each removal under the text of what it names, and no other
abbrev pub Indexes : RemovalIndex → List Removal → Type 0
Indexes index removals =
    (text : List ℕ) → found index text ≡ filter (λ removal. bytes_eq text (target_of removal)) removals

-- whether one that is found by the rule's keystrokes or without keystrokes takes the rule
abbrev pub finds : RemovalIndex → Rule → Bool
finds index rule =
    list_any (λ removal. takes removal rule) (found index (target rule.command rule.chord))
    || list_any (λ removal. takes removal rule) (found index (target rule.command []))

-- the rules that it finds no removal of
abbrev pub left_in : RemovalIndex → List Rule → List Rule
left_in index rules = filter (λ rule. not (finds index rule)) rules
