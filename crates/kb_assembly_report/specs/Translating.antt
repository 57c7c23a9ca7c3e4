-- What a file is translated to.
use Rattle.std.specs.Prelude.{◌≡◌, ◌≤◌, ◌+◌, ℕ, List, [], ◌∷◌, Option, Ok, Err, length, map, slice_get}
use Rattle.kb_assembly.specs.declared.draft.Draft.{Draft}
use Rattle.kb_assembly.specs.declared.file.FileFault.{FileFault}
use Rattle.kb_assembly.specs.Draft.{handler_draft}
use Rattle.kb_assembly.specs.declared.sections.Section.{Section}
use Rattle.kb_assembly.specs.File.{assemble, sections_in}
use Rattle.kb_base.specs.declared.refusal.Refusal.{Refusal}
use Rattle.kb_code.specs.Handler.{HandlerData}
use Rattle.kb_core.specs.Declaration.{Declaration}
use Rattle.kb_files.specs.HandlerFile.{handlers_in}
use Rattle.kb_jsonc.specs.Reader.{without_mark}
use Rattle.kb_assembly_report.specs.Choice.{IsSmallest, NoChoice}
use Rattle.kb_assembly_report.specs.Judging.{IsFileOf}
use Rattle.kb_assembly_report.specs.Json.{file_json}
use Rattle.kb_assembly_report.specs.Numbers.{numbers_at}
use Rattle.kb_assembly_report.specs.declared.assembling.Translation.{Translation}
use Rattle.kb_assembly_report.specs.declared.assembling.Translation.TheVariants.{File, Faults}
use Rattle.kb_assembly_report.specs.declared.entry.Entry.{Entry}

-- a handler of a file has what the text has of it, with what it declares and the lines of its instructions
pub record IsEntry (section : Option Section) (given : Draft) (d : Declaration) (e : Entry) : Type 0 where
  pub draft : e.draft.now ≡ given
  pub budget : e.budget ≡ d.budget
  pub depth : e.depth ≡ d.depth
  pub lines : e.lines ≡ numbers_at section

-- the same of the handlers from an index on
abbrev pub AreEntries : List Section → ℕ → List Draft → List Declaration → List Entry → Type 0
AreEntries sections index [] [] [] = Unit {0}
AreEntries sections index (given ∷ drafts) (d ∷ ds) (e ∷ es) =
    IsEntry (slice_get sections index) given d e × AreEntries sections (index + 1) drafts ds es
AreEntries sections index _ _ _ = ⊥

-- the file of the handlers of a text: what the text leaves out is as small as may be
pub record IsForm (bytes : List ℕ) (drafts : List Draft) (text : List ℕ) : Type 0 where
  pub sections : List Section
  pub cut : sections_in (without_mark bytes) ≡ Ok sections
  pub declared : List Declaration
  pub smallest : IsSmallest drafts declared
  pub entries : List Entry
  pub filled : AreEntries sections 0 drafts declared entries
  pub form : text ≡ file_json entries

-- a text is assembled: it has handlers, and the file that is written is one of these, and has its form
pub record IsAssembled (bytes text : List ℕ) : Type 0 where
  pub drafts : List Draft
  pub read : assemble (without_mark bytes) ≡ Ok drafts
  pub form : IsForm bytes drafts text
  pub file : IsFileOf drafts text
  pub small : length text ≤ 16777216

-- the file of handlers is too large, or isn't read as these handlers
pub record IsUnwritten (bytes : List ℕ) (drafts : List Draft) : Type 0 where
  pub text : List ℕ
  pub form : IsForm bytes drafts text
  pub never : length text ≤ 16777216 → IsFileOf drafts text → ⊥

-- a text is refused: it is none of the language, or no budgets and depths that it leaves out would do for its
-- handlers, or no file can have these
pub data IsRefused (bytes : List ℕ) : Type 0 where
  mistaken : (fault : FileFault) → assemble (without_mark bytes) ≡ Err fault → IsRefused bytes
  unsuited : (drafts : List Draft) → assemble (without_mark bytes) ≡ Ok drafts → NoChoice drafts →
      IsRefused bytes
  unwritten : (drafts : List Draft) → assemble (without_mark bytes) ≡ Ok drafts → IsUnwritten bytes drafts →
      IsRefused bytes

abbrev pub Assembles : List ℕ → Translation → Type 0
Assembles bytes (File text) = IsAssembled bytes text
Assembles bytes (Faults faults) = IsRefused bytes

-- a `handlers.json` is disassembled: its handlers are those of the text
pub record IsDisassembled (bytes text : List ℕ) : Type 0 where
  pub handlers : List HandlerData
  pub read : handlers_in bytes ≡ Ok handlers
  pub again : assemble text ≡ Ok (map handler_draft handlers)

-- it is refused exactly if it can't be read
abbrev pub Disassembles : List ℕ → Translation → Type 0
Disassembles bytes (File text) = IsDisassembled bytes text
Disassembles bytes (Faults faults) = (refusal : Refusal) × (handlers_in bytes ≡ Err refusal)

-- ---- for private functions

-- faults are given, and no file
abbrev pub are_faults : Translation → Type 0
are_faults (File text) = ⊥
are_faults (Faults faults) = Unit {0}
