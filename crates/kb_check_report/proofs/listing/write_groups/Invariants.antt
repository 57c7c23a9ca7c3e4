use Rattle.kb_check_report.specs.Page.{IsPage}
use Rattle.kb_check_report.proofs.listing.write_groups.Given as goal

abbrev pub invariant-loop-group : goal.invariant-loop-group
invariant-loop-group g l = IsPage l.files l.page
