use Rattle.kb_end_to_end.proofs.LoadLemmas.{raw_loads_alike}
use Rattle.kb_end_to_end.proofs.alike.raw_loads_are_alike.Goals as goal

pub returns : goal.returns
returns c = raw_loads_alike
