use Rattle.std.proofs.Common.{arith}
use Rattle.std.proofs.lemmas.Grind.{common_steps}
use Rattle.kb_keys.specs.Keystroke.{spelling}
use Rattle.kb_keys.proofs.keystroke.Keystroke.write_reserved.Goals as goal

pub returns-clause-spelling : goal.returns-clause-spelling
unfolding spelling
returns-clause-spelling c = grind (arith, common_steps)
