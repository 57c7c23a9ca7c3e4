use Rattle.std.proofs.Common.{take}
use Rattle.kb_explain_report.specs.RulePlaces.{ArePlacedInAll}
use Rattle.kb_explain_report.proofs.rule_places.positions_of_all.Given as goal

abbrev pub invariant-loop-source : goal.invariant-loop-source
invariant-loop-source l = ArePlacedInAll (take l.source-index l.sources) l.all.items
