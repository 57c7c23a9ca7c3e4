use Rattle.std.proofs.Common.{◌≡◌, take}
use Rattle.kb_assembly_report.proofs.holding.texts_of.Given as goal

abbrev pub invariant-loop-text : goal.invariant-loop-text
invariant-loop-text l = l.made ≡ take l.text-index l.texts
