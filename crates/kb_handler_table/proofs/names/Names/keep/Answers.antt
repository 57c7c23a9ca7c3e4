use Rattle.std.proofs.Common.{arith}
use Rattle.std.proofs.lemmas.Map.Text.{text_keys}
use Rattle.kb_handler_table.specs.Names.{place_in}
use Rattle.kb_handler_table.proofs.names.Names.keep.Goals as goal

pub returns : goal.returns
unfolding place_in
returns c = λ other. grind (arith, text_keys)
