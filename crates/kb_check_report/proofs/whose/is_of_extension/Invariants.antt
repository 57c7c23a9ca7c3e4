use Rattle.std.proofs.Common.{◌≡◌, length}
use Rattle.kb_check_report.specs.Whose.{is_of_extension}
use Rattle.kb_check_report.proofs.whose.is_of_extension.Given as goal

-- those that are left give the same
abbrev pub invariant-loop-left : goal.invariant-loop-left
invariant-loop-left l = is_of_extension l.files l.ids l.name l.left
    ≡ is_of_extension l.fn.files l.fn.ids l.fn.name (length l.fn.files.extensions.now)

abbrev pub decreases-loop-left : goal.decreases-loop-left
decreases-loop-left l = l.left
