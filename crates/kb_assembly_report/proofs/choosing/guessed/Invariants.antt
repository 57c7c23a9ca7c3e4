use Rattle.std.proofs.Common.{List, ◌++◌, length}
use Rattle.kb_core.specs.Declaration.{Declaration}
use Rattle.kb_assembly_report.specs.Choice.{AreFilled}
use Rattle.kb_assembly_report.proofs.choosing.guessed.Given as goal

-- those of what is left are missing
abbrev pub invariant-loop-left : goal.invariant-loop-left
invariant-loop-left l = (ds : List Declaration) → AreFilled l.left ds → AreFilled l.drafts (l.made ++ ds)

abbrev pub decreases-loop-left : goal.decreases-loop-left
decreases-loop-left l = length l.left
