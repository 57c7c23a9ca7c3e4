use Rattle.kb_end_to_end.proofs.LoadLemmas.{loads_alike}
use Rattle.kb_end_to_end.proofs.alike.loads_are_alike.Goals as goal

pub returns : goal.returns
returns c = loads_alike
