use Rattle.std.proofs.Common.{◌≡◌, ◌++◌, List, length}
use Rattle.kb_assembly_report.specs.declared.entry.Entry.{Entry}
use Rattle.kb_assembly_report.specs.Translating.{AreEntries}
use Rattle.kb_assembly_report.proofs.assembling.entries_of.Given as goal

-- those of what is left are missing
abbrev pub invariant-loop-left : goal.invariant-loop-left
invariant-loop-left l = record {
  same : length l.left ≡ length l.others;
  fills : (es : List Entry) → AreEntries l.sections (length l.entries.items) l.left l.others es →
      AreEntries l.sections 0 l.drafts l.declared (l.entries.items ++ es);
}

abbrev pub decreases-loop-left : goal.decreases-loop-left
decreases-loop-left l = length l.left
