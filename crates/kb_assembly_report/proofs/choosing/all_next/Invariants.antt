use Rattle.std.proofs.Common.{List, ◌++◌, length}
use Rattle.kb_core.specs.Declaration.{Declaration}
use Rattle.kb_verify.specs.Callable.{Commands}
use Rattle.kb_assembly_report.specs.Choice.{EachDoes, EachNext}
use Rattle.kb_assembly_report.proofs.choosing.all_next.Given as goal

-- what follows for those that are left follows for all, and what will do for all will do for them
abbrev pub invariant-loop-left : goal.invariant-loop-left
invariant-loop-left l = record {
  next : (ds : List Declaration) → EachNext l.callable l.left ds → EachNext l.callable l.drafts (l.made ++ ds);
  rest : (others : Commands) (es : List Declaration) → EachDoes others l.drafts es →
      (fs : List Declaration) × EachDoes others l.left fs;
}

abbrev pub decreases-loop-left : goal.decreases-loop-left
decreases-loop-left l = length l.left
