use Rattle.std.proofs.Common.{◌≡◌, drop}
use Rattle.std.specs.List.{list_any}
use Rattle.kb_check_report.specs.Marks.{is_shown}
use Rattle.kb_check_report.proofs.marks.is_any_shown.Given as goal

-- those that are left give the same
abbrev pub invariant-loop-mark : goal.invariant-loop-mark
invariant-loop-mark l = list_any is_shown (drop l.mark-index l.marks) ≡ list_any is_shown l.fn.marks
