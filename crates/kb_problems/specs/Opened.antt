-- The files of a load that were opened again.
use Rattle.std.specs.Prelude.{◌≡◌, ℕ, List, Option, Some, IfSome, option_map, slice_get}
use Rattle.kb_base.specs.declared.note.Origin.{Origin}
use Rattle.kb_files.specs.declared.fault.LoadFile.{LoadFile}
use Rattle.kb_files.specs.declared.fault.LoadFile.TheVariants as file
use Rattle.kb_places.specs.Open.{Opens}
use Rattle.kb_source_files.specs.declared.source_files.ExtensionSource.{ExtensionSource}
use Rattle.kb_source_files.specs.declared.source_files.SourceFile.{SourceFile}
use Rattle.kb_source_files.specs.declared.source_files.SourceFiles.{SourceFiles}
use Rattle.kb_problems.specs.declared.opened.Opened.{Opened}
use Rattle.kb_problems.specs.declared.opened.OpenedFiles.{OpenedFiles}
use Rattle.kb_problems.specs.declared.problem.Problem.{Problem}
use Rattle.kb_problems.specs.Placed.{IsAtElement}
use Rattle.kb_rules.specs.declared.removal.Removal.{Removal}
use Rattle.kb_rules.specs.declared.rule.Rule.{Rule}

-- a file of this name was opened, from these bytes
pub record IsOpened (name : LoadFile) (from : Option SourceFile) (opened : Opened) : Type 0 where
  pub named : opened.file ≡ name
  pub file : SourceFile
  pub is_file : from ≡ Some file
  pub opens : Opens file.bytes.now opened.source

-- each manifest that was opened is the one at its number
abbrev pub ArePackages : List ExtensionSource → List (Option Opened) → Type 0
ArePackages extensions packages = (number : ℕ) (one : Opened) → slice_get packages number ≡ Some (Some one)
    → IsOpened (file.Package number) (option_map (λ e. e.package) (slice_get extensions number)) one

-- each file that was opened is the one of its name
pub record AreOpened (files : SourceFiles) (opened : OpenedFiles) : Type 0 where
  pub defaults : IfSome opened.defaults (IsOpened file.Defaults files.defaults)
  pub user : IfSome opened.user (IsOpened file.User files.user)
  pub packages : ArePackages files.extensions.now opened.packages.items

-- a problem is at an element of a list of rules of the files that were opened
pub record IsAtOpenedElement (opened : OpenedFiles) (origin : Origin) (place : ℕ) (problem : Problem)
    : Type 0 where
  pub of_files : (files : SourceFiles) → AreOpened files opened → IsAtElement files origin place problem

-- the same of a rule, and of a removal
abbrev pub IsAtOpened : OpenedFiles → Rule → Problem → Type 0
IsAtOpened opened rule = IsAtOpenedElement opened rule.origin rule.place

abbrev pub IsAtOpenedRemoval : OpenedFiles → Removal → Problem → Type 0
IsAtOpenedRemoval opened removal = IsAtOpenedElement opened removal.origin removal.place
