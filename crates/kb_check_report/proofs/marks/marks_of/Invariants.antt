use Rattle.std.proofs.Common.{◌≡◌, map, take}
use Rattle.kb_check_report.specs.Marks.{mark_of}
use Rattle.kb_check_report.proofs.marks.marks_of.Given as goal

abbrev pub invariant-loop-problem : goal.invariant-loop-problem
invariant-loop-problem l =
    l.marks.items ≡ map (mark_of l.files l.ids l.choices) (take l.problem-index l.problems)
