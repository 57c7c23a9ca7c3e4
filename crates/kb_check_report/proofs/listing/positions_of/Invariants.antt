use Rattle.kb_check_report.specs.Page.{IsPage}
use Rattle.kb_check_report.proofs.listing.positions_of.Given as goal

abbrev pub invariant-loop-one : goal.invariant-loop-one
invariant-loop-one l = IsPage l.files l.page
