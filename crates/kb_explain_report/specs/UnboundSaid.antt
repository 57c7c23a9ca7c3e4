-- What is said of a command without keys.
use Rattle.std.specs.Prelude.{◌≡◌, ◌++◌, ℕ, List, Some, codes}
use Rattle.std.specs.Borrow.{Bor}
use Rattle.serde_json.specs.Data.{Data, string}
use Rattle.serde_json.specs.Find.{get}
use Rattle.kb_palette.specs.Command.{CommandData}
use Rattle.kb_report.specs.Output.{IsJson}
use Rattle.kb_report.specs.declared.output.Form.{Form}
use Rattle.kb_report.specs.declared.output.Form.TheVariants as form

-- a command with its text in the palette
abbrev pub unbound_words : CommandData → List ℕ
unbound_words c = c.command ++ (codes ": " ++ c.label)

-- the same as JSON
abbrev pub IsUnboundJson : CommandData → Data → Type 0
IsUnboundJson c d = (get (codes "command") d ≡ Some (string c.command))
    × (get (codes "label") d ≡ Some (string c.label))

-- a line says a command
abbrev pub SaysUnbound : Form → CommandData → List ℕ → Type 0
SaysUnbound form.Text c said = said ≡ unbound_words c
SaysUnbound form.Json c said = (d : Data) × IsUnboundJson c d × IsJson d said

-- the same of a command that is lent
abbrev pub SaysLent : Form → Bor CommandData → List ℕ → Type 0
SaysLent f c = SaysUnbound f c.now
