-- Where problems are. A problem is in the file of its cause, and the place of a warning is that of the entry
-- that the warning names by its part and its index.
use Rattle.std.specs.Prelude.{◌≡◌, ◌⊎◌, ◌==◌, ◌&&◌, ◌++◌, ℕ, List, [], ◌∷◌, Bool, if◌then◌else◌, codes, map}
use Rattle.std.specs.Prelude.{Option, Some, IfSome, is_some, option_and_then}
use Rattle.std.specs.Prelude.{slice_get, string_bytes}
use Rattle.std.specs.List.{All}
use Rattle.serde_json.specs.Data.{Data}
use Rattle.serde_json.specs.Find.{as_object, get}
use Rattle.serde_json.specs.View.{view}
use Rattle.kb_base.specs.declared.note.Origin.{Origin}
use Rattle.kb_base.specs.declared.note.Part.{Part}
use Rattle.kb_base.specs.declared.note.Part.TheVariants.{Commands, Keybindings, Palette}
use Rattle.kb_base.specs.declared.note.Warning.{Warning}
use Rattle.kb_files.specs.declared.fault.LoadFile.{LoadFile}
use Rattle.kb_files.specs.declared.fault.LoadFile.TheVariants.{Package}
use Rattle.kb_manifest.specs.Points.{entries_of}
use Rattle.kb_places.specs.Open.{Opens}
use Rattle.kb_places.specs.Place.{StandsAt, StepData, member, item}
use Rattle.kb_places.specs.declared.path.Step.{Step}
use Rattle.kb_places.specs.declared.source.Source.{Source}
use Rattle.kb_places.specs.declared.span.Span.{Span}
use Rattle.kb_rules.specs.declared.rule.Rule.{Rule}
use Rattle.kb_source_files.specs.SourceFiles.{file_of}
use Rattle.kb_source_files.specs.declared.source_files.SourceFile.{SourceFile}
use Rattle.kb_source_files.specs.declared.source_files.SourceFiles.{SourceFiles}
use Rattle.kb_problems.specs.declared.cause.Cause.{Cause}
use Rattle.kb_problems.specs.declared.cause.Cause.TheVariants.{Refused, Warned, Linted}
use Rattle.kb_problems.specs.declared.problem.Problem.{Problem}
use Rattle.kb_problems.specs.Starts.{file_in}

-- the members that lead to the entries of a part of a manifest
abbrev pub members_to : Part → List (List ℕ)
members_to Commands = codes "contributes" ∷ codes "commands" ∷ []
members_to Keybindings = codes "contributes" ∷ codes "keybindings" ∷ []
members_to Palette = codes "contributes" ∷ codes "menus" ∷ codes "commandPalette" ∷ []

-- the members that lead to the entries of a part of a file: a file of rules is itself their list
abbrev pub list_in : LoadFile → Part → List (List ℕ)
list_in (Package number) part = members_to part
list_in _ part = []

-- the value at some members
abbrev pub value_in : List (List ℕ) → Data → Option Data
value_in [] d = Some d
value_in (name ∷ names) d = option_and_then (value_in names) (get name d)

-- the entry at an index, as a load finds it: an element of the list, or the object that stands in its place
abbrev pub entry_at : List (List ℕ) → ℕ → Data → Option Data
entry_at names place d =
    option_and_then (λ entries. slice_get entries place) (option_and_then entries_of (value_in names d))

-- one object stands in place of the list at some members, and is its only entry
abbrev pub is_alone : List (List ℕ) → Data → ℕ → Bool
is_alone names d place = place == 0 && is_some (option_and_then as_object (value_in names d))

-- the steps to an entry
abbrev pub steps_in : List (List ℕ) → Data → ℕ → List StepData
steps_in names d place = map member names ++ (if is_alone names d place then [] else item place ∷ [])

-- what is read from a part of a file is the entry at an index, or a member of that entry
pub record IsEntryAt (source : Source) (names : List (List ℕ)) (place : ℕ) (span : Span) : Type 0 where
  pub entry : Data
  pub is_entry : entry_at names place (view source.value) ≡ Some entry
  pub steps : List Step
  pub stands : StandsAt (string_bytes source.plain) (view source.value) steps span
  pub shown : (stands.held ≡ entry) ⊎ ((name : List ℕ) × (get name entry ≡ Some stands.held))

-- the same in a file of a load
pub record IsEntryIn (from : Option SourceFile) (names : List (List ℕ)) (place : ℕ) (span : Span)
    : Type 0 where
  pub file : SourceFile
  pub is_file : from ≡ Some file
  pub source : Source
  pub opens : Opens file.bytes.now source
  pub shows : IsEntryAt source names place span

-- a warning is in its file. Where a place in it is named, its entry or a member of it begins there; where
-- none is, the problem is one of the file as a whole
pub record IsPlacedWarning (files : SourceFiles) (problem : Problem) (warning : Warning) : Type 0 where
  pub is_in : problem.file ≡ file_in warning.origin
  pub stands : IfSome problem.span
      (IsEntryIn (file_of files problem.file) (list_in problem.file warning.part) warning.place)

-- a problem of an element of a list of rules is in its file. Where a place in it is named, the element or a
-- member of it begins there
pub record IsAtElement (files : SourceFiles) (origin : Origin) (place : ℕ) (problem : Problem) : Type 0 where
  pub is_in : problem.file ≡ file_in origin
  pub stands : IfSome problem.span
      (IsEntryIn (file_of files (file_in origin)) (list_in (file_in origin) Keybindings) place)

-- the same of a rule
abbrev pub IsAtRule : SourceFiles → Rule → Problem → Type 0
IsAtRule files rule = IsAtElement files rule.origin rule.place

-- a refusal is in the file that the load names; of other lints no clause says where they are
abbrev pub IsPlacedBy : SourceFiles → Problem → Cause → Type 0
IsPlacedBy files problem (Refused file number) = problem.file ≡ file
IsPlacedBy files problem (Warned warning) = IsPlacedWarning files problem warning
IsPlacedBy files problem (Linted lint) = Unit {0}

abbrev pub IsPlaced : SourceFiles → Problem → Type 0
IsPlaced files problem = IsPlacedBy files problem problem.cause

abbrev pub ArePlaced : SourceFiles → List Problem → Type 0
ArePlaced files problems = All (IsPlaced files) problems
