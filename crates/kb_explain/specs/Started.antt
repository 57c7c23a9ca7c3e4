-- Which rules start a command, and which commands have none.
use Rattle.std.specs.Prelude.{◌&&◌, ◌||◌, ℕ, Bool, false, not, List, [], codes, filter}
use Rattle.std.specs.Prelude.{Option, None, Some, option_and_then}
use Rattle.std.specs.List.{list_any}
use Rattle.std.specs.Option.{option_map_or}
use Rattle.std.specs.Str.{bytes_eq}
use Rattle.serde_json.specs.Data.{Data, null, boolean, number, string, array, object}
use Rattle.serde_json.specs.Find.{as_str, get}
use Rattle.kb_bindings.specs.Sources.{Sources, rules_of}
use Rattle.kb_jsonc.specs.Parts.{elements_of}
use Rattle.kb_palette.specs.Command.{CommandData}
use Rattle.kb_palette_commands.specs.Palette.{palette_commands}
use Rattle.kb_rules.specs.declared.rule.Rule.{Rule}

-- there is a text, and it is the command
abbrev pub is_named : List ℕ → Option (List ℕ) → Bool
is_named command text = option_map_or (λ text. bytes_eq text command) text false

-- an element of the list of `runCommands` names a command: as a text, or by the member `command`
abbrev pub names : List ℕ → Data → Bool
names command null = false
names command (boolean b) = false
names command (number n) = false
names command (string s) = bytes_eq s command
names command (array ds) = false
names command (object ms) = is_named command (option_and_then as_str (get (codes "command") (object ms)))

-- the elements of the list in the arguments of `runCommands`
abbrev pub elements_in : Option Data → Option (List Data)
elements_in args = option_and_then (λ d. option_and_then elements_of (get (codes "commands") d)) args

-- a rule starts a command: by itself, or in the list of `runCommands`
abbrev pub starts : List ℕ → Rule → Bool
starts command rule = bytes_eq rule.command command
    || bytes_eq rule.command (codes "runCommands")
    && option_map_or (list_any (names command)) (elements_in rule.args) false

-- one of these rules starts a command
abbrev pub is_started : List Rule → CommandData → Bool
is_started rules c = list_any (starts c.command) rules

-- the commands of the palette that no rule in force starts
abbrev pub without_keys : Sources → List CommandData
without_keys s = filter (λ c. not (is_started (rules_of s) c)) (palette_commands s.extensions)
