-- Whether no problem is shown.
use Rattle.std.proofs.Common.{◌≡◌, ◌∙◌, ℕ, List, Bool, ap, map}
use Rattle.std.specs.Prelude.{not, ◌||◌}
use Rattle.std.specs.List.{list_any}
use Rattle.kb_check.specs.Problems.{AreWanted, Tells, files_in}
use Rattle.kb_check_report.specs.Checking.{Checks}
use Rattle.kb_check_report.specs.Marks.{is_shown, mark_of}
use Rattle.kb_check_report.specs.Whose.{is_unknown}
use Rattle.kb_check_report.specs.declared.marks.Mark.{Mark}
use Rattle.kb_files.specs.Inputs.{Files}
use Rattle.kb_problems.specs.Placed.{IsAtRule}
use Rattle.kb_problems.specs.declared.choices.Choices.{Choices}
use Rattle.kb_problems.specs.declared.problem.Problem.{Problem}
use Rattle.kb_source_files.specs.declared.source_files.SourceFiles.{SourceFiles}

pub checked : (sources : SourceFiles) (files : Files) (choices : Choices) (ids : List (List ℕ))
    (problems : List Problem) (marks : List Mark) (clean : Bool) → files_in sources ≡ files
    → Tells (IsAtRule sources) files ids problems → AreWanted choices problems
    → marks ≡ map (mark_of sources ids choices) problems
    → clean ≡ not (list_any is_shown marks || list_any (is_unknown sources ids) (map (λ name. name.now) choices.only.now))
    → Checks files choices clean
checked sources files choices ids problems marks clean are tells wanted marked is = record {
  problems = problems;
  sources = sources;
  are_files = are;
  ids = ids;
  tells = tells;
  wanted = wanted;
  none = is ∙ ap (λ ms. not (list_any is_shown ms
      || list_any (is_unknown sources ids) (map (λ name. name.now) choices.only.now))) marked;
}

pub ruleset checks = (checked)
