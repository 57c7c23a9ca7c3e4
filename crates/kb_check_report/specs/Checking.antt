-- What a check answers.
use Rattle.std.specs.Prelude.{◌≡◌, ℕ, List, Bool, not, ◌||◌, map}
use Rattle.std.specs.List.{list_any}
use Rattle.kb_check.specs.Problems.{AreWanted, Tells, files_in}
use Rattle.kb_files.specs.Inputs.{Files}
use Rattle.kb_problems.specs.Placed.{IsAtRule}
use Rattle.kb_problems.specs.declared.choices.Choices.{Choices}
use Rattle.kb_problems.specs.declared.problem.Problem.{Problem}
use Rattle.kb_source_files.specs.declared.source_files.SourceFiles.{SourceFiles}
use Rattle.kb_check_report.specs.Marks.{is_shown, mark_of}
use Rattle.kb_check_report.specs.Whose.{is_unknown}

-- no problem is shown, and each name that was given is of a file
abbrev pub is_clean : SourceFiles → List (List ℕ) → Choices → List Problem → Bool
is_clean sources ids choices problems =
    not (list_any is_shown (map (mark_of sources ids choices) problems)
    || list_any (is_unknown sources ids) (map (λ name. name.now) choices.only.now))

-- whether some files are clean
pub record Checks (files : Files) (choices : Choices) (clean : Bool) : Type 0 where
  pub problems : List Problem
  pub sources : SourceFiles
  pub are_files : files_in sources ≡ files
  pub ids : List (List ℕ)
  pub tells : Tells (IsAtRule sources) files ids problems
  pub wanted : AreWanted choices problems
  pub none : clean ≡ is_clean sources ids choices problems
