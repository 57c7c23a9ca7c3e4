use Rattle.std.proofs.Common.{arith}
use Rattle.std.proofs.lemmas.Grind.{text_groups}
use Rattle.kb_rules.proofs.removal_index.RemovalIndex.new.Goals as goal

pub loop-removal-preserved : goal.loop-removal-preserved
loop-removal-preserved c = λ text. grind (arith, text_groups, c.loop-removal.invariant text)
