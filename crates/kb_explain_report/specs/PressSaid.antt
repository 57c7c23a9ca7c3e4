-- What is said of a press.
use Rattle.std.specs.Prelude.{ℕ, ◌&&◌, Bool, true, false, not, List, Option}
use Rattle.std.specs.Io.KnownBytes.{Keeps}
use Rattle.kb_bindings.specs.Sources.{rules_of}
use Rattle.kb_explain.specs.Disabled.{disabled_in}
use Rattle.kb_explain.specs.Removed.{removed_in}
use Rattle.kb_keys.specs.declared.keystroke.Keystroke.{Keystroke}
use Rattle.kb_resolve.specs.Pressed.{Step}
use Rattle.kb_explain_report.specs.RemovedSaid.{SaysRemoved}
use Rattle.kb_explain_report.specs.DisabledSaid.{SaysDisabled}
use Rattle.kb_explain_report.specs.RulesSaid.{SaysStep, any_on, waits}
use Rattle.kb_explain_report.specs.Said.{WritesEach, WritesMore}
use Rattle.kb_report.specs.Output.{WritesLine}
use Rattle.kb_report.specs.declared.output.Form.{Form}
use Rattle.kb_explain_report.specs.declared.rule_said.Named.{Named}

-- why, then a line for each rule with these keystrokes that a removal took, a line for each whose extension
-- isn't enabled, and then more
abbrev pub SaysReasons : Form → Named → List Keystroke → Option (List ℕ) → Option (List ℕ) → Type 0
SaysReasons f named strokes old new = (explained removed disabled : Option (List ℕ))
    × WritesMore old explained
    × WritesEach (SaysRemoved f named) (removed_in named.bindings.now strokes) explained removed
    × WritesEach (SaysDisabled f named) (disabled_in named.bindings.now strokes) removed disabled
    × WritesMore disabled new

-- why a press does what it does, unless that is left out
abbrev pub SaysRest : Bool → Form → Named → List Keystroke → Option (List ℕ) → Option (List ℕ) → Type 0
SaysRest true f named strokes old new = Keeps old new
SaysRest false f named strokes old new = SaysReasons f named strokes old new

-- a line for what the press does, and then why, unless it waits and that is left out
abbrev pub SaysPress : Form → Named → List Keystroke → Bool → Step → Option (List ℕ) → Option (List ℕ)
    → Type 0
SaysPress f named strokes why_it_waits does old new = (first : Option (List ℕ))
    × WritesLine (SaysStep f (any_on strokes (rules_of named.bindings.now)) strokes does) old first
    × SaysRest (not why_it_waits && waits does) f named strokes first new
