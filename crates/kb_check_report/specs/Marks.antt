-- Which problems are shown, and how many there are.
use Rattle.std.specs.Prelude.{ℕ, ◌==◌, List, length, filter, map, Bool, true, false, ◌||◌}
use Rattle.kb_problems.specs.Severity.{severity_of}
use Rattle.kb_problems.specs.declared.cause.Cause.{Cause}
use Rattle.kb_problems.specs.declared.cause.Cause.TheVariants.{Refused}
use Rattle.kb_problems.specs.declared.choices.Choices.{Choices}
use Rattle.kb_problems.specs.declared.problem.Problem.{Problem}
use Rattle.kb_problems.specs.declared.severity.Severity.{Severity}
use Rattle.kb_problems.specs.declared.severity.Severity.TheVariants as severity
use Rattle.kb_source_files.specs.declared.source_files.SourceFiles.{SourceFiles}
use Rattle.kb_check_report.specs.Whose.{is_asked}
use Rattle.kb_check_report.specs.declared.marks.Counts.{Counts}
use Rattle.kb_check_report.specs.declared.marks.Mark.{Mark}
use Rattle.kb_check_report.specs.declared.marks.Mark.TheVariants.{Error, Warning, Note, LowWarning, LowNote}
use Rattle.kb_check_report.specs.declared.marks.Mark.TheVariants.{Elsewhere}

-- an error is shown at each level, a warning at the levels of warnings and notes, and a note at that of notes
abbrev pub mark_at : Severity → Severity → Mark
mark_at level severity.Error = Error
mark_at severity.Error severity.Warning = LowWarning
mark_at level severity.Warning = Warning
mark_at severity.Note severity.Note = Note
mark_at level severity.Note = LowNote

-- of a file that isn't asked for no problem is shown
abbrev pub mark_by : Bool → Severity → Severity → Mark
mark_by false level severity = Elsewhere
mark_by true level severity = mark_at level severity

abbrev pub is_refusal : Cause → Bool
is_refusal (Refused file fault) = true
is_refusal _ = false

-- the mark of a problem among those of files, whose extensions have these identifiers. A refused load is
-- always asked for
abbrev pub mark_of : SourceFiles → List (List ℕ) → Choices → Problem → Mark
mark_of files ids choices problem = mark_by (is_refusal problem.cause
    || is_asked files ids (map (λ name. name.now) choices.only.now) problem.file)
    choices.level (severity_of problem.cause)

abbrev pub is_shown : Mark → Bool
is_shown Error = true
is_shown Warning = true
is_shown Note = true
is_shown _ = false

-- ---- how many there are

abbrev pub mark_number : Mark → ℕ
mark_number Error = 0
mark_number Warning = 1
mark_number Note = 2
mark_number LowWarning = 3
mark_number LowNote = 4
mark_number Elsewhere = 5

abbrev pub count : Mark → List Mark → ℕ
count mark marks = length (filter (λ one. mark_number one == mark_number mark) marks)

abbrev pub counts : List Mark → Counts
counts marks = record {
  errors = count Error marks;
  warnings = count Warning marks;
  notes = count Note marks;
  low_warnings = count LowWarning marks;
  low_notes = count LowNote marks;
  elsewhere = count Elsewhere marks;
}
