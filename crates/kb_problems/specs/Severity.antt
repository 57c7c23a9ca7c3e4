-- How bad a problem is: an error where a load is refused or an entry dropped, a warning where an entry never
-- does what it says, and a note otherwise.
use Rattle.std.specs.Prelude.{ℕ, List, [], ◌∷◌, Option, codes, find, bytes_eq}
use Rattle.kb_base.specs.declared.fault.FaultKind.{FaultKind}
use Rattle.kb_base.specs.declared.fault.FaultKind.TheVariants as fault
use Rattle.kb_base.specs.declared.note.Part.{Part}
use Rattle.kb_base.specs.declared.note.Part.TheVariants.{Commands, Keybindings, Palette}
use Rattle.kb_problems.specs.declared.cause.Cause.{Cause}
use Rattle.kb_problems.specs.declared.cause.Cause.TheVariants.{Refused, Warned, Linted}
use Rattle.kb_problems.specs.declared.cause.Lint.{Lint}
use Rattle.kb_problems.specs.declared.cause.Lint.TheVariants as lint
use Rattle.kb_problems.specs.declared.severity.Severity.{Severity}
use Rattle.kb_problems.specs.declared.severity.Severity.TheVariants.{Error, Warning, Note}

abbrev pub severity_name : Severity → List ℕ
severity_name Error = codes "error"
severity_name Warning = codes "warning"
severity_name Note = codes "note"

abbrev pub severity_named : List ℕ → Option Severity
severity_named name = find (λ s. bytes_eq name (severity_name s)) (Error ∷ Warning ∷ Note ∷ [])

-- a rule is kept with a pattern that never matches, and dropped for any other fault
abbrev pub severity_in_rule : FaultKind → Severity
severity_in_rule fault.UnreadPattern = Warning
severity_in_rule _ = Error

-- a command or an item of the palette is kept with its clause as false, and dropped for any other fault
abbrev pub severity_in_other : FaultKind → Severity
severity_in_other fault.BadToken = Warning
severity_in_other fault.Unexpected = Warning
severity_in_other fault.ClauseTooDeep = Warning
severity_in_other fault.BadNumber = Warning
severity_in_other fault.UnreadPattern = Warning
severity_in_other _ = Error

abbrev pub severity_in : Part → FaultKind → Severity
severity_in Keybindings fault = severity_in_rule fault
severity_in Commands fault = severity_in_other fault
severity_in Palette fault = severity_in_other fault

-- an unknown command may be one of the editor, and a rule is overridden on purpose
abbrev pub severity_of_lint : Lint → Severity
severity_of_lint lint.UnknownCommand = Note
severity_of_lint lint.Overridden = Note
severity_of_lint _ = Warning

abbrev pub severity_of : Cause → Severity
severity_of (Refused file fault) = Error
severity_of (Warned warning) = severity_in warning.part warning.kind
severity_of (Linted lint) = severity_of_lint lint
