use Rattle.std.proofs.Common.{◌≡◌, ◌≤◌, ◌+◌, drop}
use Rattle.kb_check_report.specs.Marks.{count}
use Rattle.kb_check_report.proofs.marks.count.Given as goal

-- those so far and those that are left
abbrev pub invariant-loop-one : goal.invariant-loop-one
invariant-loop-one l = record {
  counted : l.found + count l.mark (drop l.one-index l.marks) ≡ count l.fn.mark l.fn.marks;
  room : l.found ≤ l.one-index;
}
