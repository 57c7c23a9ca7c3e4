use Rattle.std.proofs.Common.{arith}
use Rattle.std.proofs.lemmas.Grind.{text_groups}
use Rattle.kb_palette_commands.proofs.items.ItemTable.of_items.Goals as goal

pub loop-item-preserved : goal.loop-item-preserved
loop-item-preserved c = λ command. grind (arith, text_groups, c.loop-item.invariant command)
