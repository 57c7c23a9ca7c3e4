use Rattle.kb_end_to_end.proofs.AlikeLemmas.{scripts_alike}
use Rattle.kb_end_to_end.proofs.alike.scripts_are_alike.Goals as goal

pub returns : goal.returns
returns c = scripts_alike
