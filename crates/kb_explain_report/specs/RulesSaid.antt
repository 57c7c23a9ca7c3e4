-- What is said of rules and of a press.
use Rattle.std.specs.Prelude.{◌≡◌, ◌++◌, ◌∷◌, [], ℕ, Bool, true, false, List, Option, Some, None, codes}
use Rattle.std.specs.Prelude.{filter}
use Rattle.std.specs.Prelude.{◌&&◌, option_map}
use Rattle.std.specs.List.{list_any}
use Rattle.std.specs.List.Sorted.{IsPermutation}
use Rattle.serde_json.specs.Data.{Data, string}
use Rattle.serde_json.specs.Find.{get}
use Rattle.kb_explain.specs.Started.{starts}
use Rattle.kb_keys.specs.Chord.{begins_with, chord_spelling}
use Rattle.kb_keys.specs.declared.keystroke.Keystroke.{Keystroke}
use Rattle.kb_resolve.specs.Pressed as step
use Rattle.kb_resolve.specs.Pressed.{Step}
use Rattle.kb_rules.specs.declared.rule.Rule.{Rule}
use Rattle.kb_explain_report.specs.Said.{WritesEach}
use Rattle.kb_report.specs.Output.{IsJson}
use Rattle.kb_explain_report.specs.declared.list_said.Listed.{Listed}
use Rattle.kb_explain_report.specs.declared.list_said.Row.{Row}
use Rattle.kb_report.specs.declared.output.Form.{Form}
use Rattle.kb_report.specs.declared.output.Form.TheVariants as form

-- the identifier of a command in words
abbrev pub command_words : List ℕ → List ℕ
command_words [] = codes "(no command)"
command_words (b ∷ bs) = b ∷ bs

-- a rule in words: its keystrokes, its command, and more if it has a clause
abbrev pub IsRuleText : Rule → List ℕ → Type 0
IsRuleText rule words = (clause : List ℕ)
    × (words ≡ chord_spelling rule.chord ++ (codes " " ++ (command_words rule.command ++ clause)))

-- a rule as JSON
abbrev pub IsRuleJson : Rule → Data → Type 0
IsRuleJson rule d = (get (codes "keys") d ≡ Some (string (chord_spelling rule.chord)))
    × (get (codes "command") d ≡ Some (string rule.command))

-- a rule in words behind a mark, and where it stands
abbrev pub IsMarkedText : Rule → List ℕ → Type 0
IsMarkedText rule said = (mark words place : List ℕ)
    × IsRuleText rule words × (said ≡ mark ++ (codes " " ++ (words ++ place)))

abbrev pub IsMarkedJson : Rule → Data → Type 0
IsMarkedJson rule d = (e : Data) × IsRuleJson rule e × (get (codes "rule") d ≡ Some e)

-- a line says a rule
abbrev pub SaysRule : Form → Rule → List ℕ → Type 0
SaysRule form.Text rule said = IsMarkedText rule said
SaysRule form.Json rule said = (d : Data) × IsMarkedJson rule d × IsJson d said

-- a row says its rule
abbrev pub SaysRow : Form → Row → List ℕ → Type 0
SaysRow f row = SaysRule f row.rule.now

-- a rule starts a command; each starts what isn't given
abbrev pub starts_any : Option (List ℕ) → Rule → Bool
starts_any None rule = true
starts_any (Some command) rule = starts command rule

-- a rule is listed: its keystrokes begin with some, and it starts a command
abbrev pub is_listed : Listed → Rule → Bool
is_listed listed rule = begins_with rule.chord listed.strokes.now
    && starts_any (option_map (λ name. name.now) listed.command) rule

abbrev pub rules_listed : Listed → List Rule → List Rule
rules_listed listed rules = filter (is_listed listed) rules

-- a line for each rule that is listed, in some order
abbrev pub SaysRules : Form → Listed → List Rule → Option (List ℕ) → Option (List ℕ) → Type 0
SaysRules f listed rules old new = (sorted : List Rule)
    × IsPermutation (rules_listed listed rules) sorted × WritesEach (SaysRule f) sorted old new

-- ---- a press

-- what starting a command is in words: the empty one starts nothing
abbrev pub start_words : List ℕ → List ℕ
start_words [] = codes "starts nothing, since the rule that it takes has no command"
start_words (b ∷ bs) = codes "starts " ++ b ∷ bs

-- the keystrokes of a rule begin with these
abbrev pub any_on : List Keystroke → List Rule → Bool
any_on strokes rules = list_any (λ rule. begins_with rule.chord strokes) rules

-- why a press starts nothing, by whether a rule has the keystrokes
abbrev pub lack_words : Bool → List ℕ
lack_words true = codes "no rule holds"
lack_words false = codes "no rule in force has these keystrokes"

-- what a press does, in words, by whether a rule has the keystrokes
abbrev pub step_words : Bool → Step → List ℕ
step_words has_rule (step.start rule) = start_words rule.command
step_words has_rule step.more = codes "waits for more keystrokes"
step_words has_rule step.left = codes "starts nothing and ends the chord, since " ++ lack_words has_rule
step_words has_rule step.unbound = codes "starts nothing, since " ++ lack_words has_rule

-- a press only opens or keeps a chord
abbrev pub waits : Step → Bool
waits step.more = true
waits _ = false

abbrev pub start_word : List ℕ → List ℕ
start_word [] = codes "nothing"
start_word (b ∷ bs) = codes "starts"

-- the same in one word
abbrev pub step_word : Step → List ℕ
step_word (step.start rule) = start_word rule.command
step_word step.more = codes "chord"
step_word step.left = codes "left"
step_word step.unbound = codes "unbound"

-- the command that a press starts, the empty one if it starts none
abbrev pub step_command : Step → List ℕ
step_command (step.start rule) = rule.command
step_command _ = []

abbrev pub IsStepText : Bool → List Keystroke → Step → List ℕ → Type 0
IsStepText has_rule strokes does said =
    said ≡ chord_spelling strokes ++ (codes ": " ++ step_words has_rule does)

abbrev pub IsStepJson : List Keystroke → Step → Data → Type 0
IsStepJson strokes does d = (get (codes "keys") d ≡ Some (string (chord_spelling strokes)))
    × (get (codes "does") d ≡ Some (string (step_word does)))
    × (get (codes "command") d ≡ Some (string (step_command does)))

-- a line says what a press does that completes these keystrokes, by whether a rule has them
abbrev pub SaysStep : Form → Bool → List Keystroke → Step → List ℕ → Type 0
SaysStep form.Text has_rule strokes does said = IsStepText has_rule strokes does said
SaysStep form.Json has_rule strokes does said = (d : Data) × IsStepJson strokes does d × IsJson d said
