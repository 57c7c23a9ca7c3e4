use Rattle.std.proofs.Common.{List, ◌++◌, length}
use Rattle.kb_core.specs.Declaration.{Declaration}
use Rattle.kb_verify.specs.Callable.{Commands}
use Rattle.kb_assembly_report.specs.Choice.{AreLowest, EachDoes}
use Rattle.kb_assembly_report.proofs.choosing.lowest.Given as goal

-- the smallest numbers for those that are left are those for all, and what will do for all will do for them
abbrev pub invariant-loop-left : goal.invariant-loop-left
invariant-loop-left l = record {
  low : (ds : List Declaration) → AreLowest l.left ds → AreLowest l.drafts (l.made ++ ds);
  rest : (others : Commands) (es : List Declaration) → EachDoes others l.drafts es →
      (fs : List Declaration) × EachDoes others l.left fs;
}

abbrev pub decreases-loop-left : goal.decreases-loop-left
decreases-loop-left l = length l.left
