use Rattle.std.proofs.Common.{arith}
use Rattle.std.proofs.lemmas.Map.Text.{text_keys}
use Rattle.kb_assembly.specs.Index.{number_in}
use Rattle.kb_assembly.proofs.index.Index.keep.Goals as goal

pub returns : goal.returns
unfolding number_in
returns c = λ other. grind (arith, text_keys)
