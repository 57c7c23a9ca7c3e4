-- What the two directions mean together.
use Rattle.std.specs.Prelude.{◌≡◌, ℕ, List, Ok}
use Rattle.kb_assembly.specs.declared.draft.Draft.{Draft}
use Rattle.kb_assembly.specs.File.{assemble}
use Rattle.kb_core.specs.Declaration.{Declaration}
use Rattle.kb_files.specs.HandlerFile.{handlers_in}
use Rattle.kb_jsonc.specs.Reader.{without_mark}
use Rattle.kb_assembly_report.specs.Choice.{IsChoice}
use Rattle.kb_assembly_report.specs.Judging.{IsFileOf}
use Rattle.kb_assembly_report.specs.Translating.{Assembles, Disassembles, IsUnwritten}
use Rattle.kb_assembly_report.specs.declared.assembling.Translation.{Translation}
use Rattle.kb_assembly_report.specs.declared.assembling.Translation.TheVariants.{File, Faults}

-- the text of a file is assembled to a file of the same handlers
abbrev pub SameHandlersAgain : Type 0
SameHandlersAgain = (bytes text file : List ℕ) → Disassembles bytes (File text) → Assembles text (File file) →
    handlers_in file ≡ handlers_in bytes

-- a file of the handlers of a text, those without a budget accepted; or no file can have them
abbrev pub IsWritten : List ℕ → List Draft → Translation → Type 0
IsWritten bytes drafts (File file) = IsFileOf drafts file
IsWritten bytes drafts (Faults faults) = IsUnwritten bytes drafts

-- handlers are accepted as they are assembled, if they would be with any budgets and depths in the place of
-- those that the text leaves out
abbrev pub AcceptedIfAnyWould : Type 0
AcceptedIfAnyWould = (bytes : List ℕ) (drafts : List Draft) (ds : List Declaration) (made : Translation) →
    assemble (without_mark bytes) ≡ Ok drafts → IsChoice drafts ds → Assembles bytes made →
    IsWritten bytes drafts made
