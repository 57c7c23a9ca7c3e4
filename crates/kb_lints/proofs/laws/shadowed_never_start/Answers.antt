use Rattle.kb_lints.proofs.ShadowLemmas as shadow
use Rattle.kb_lints.proofs.laws.shadowed_never_start.Goals as goal

pub returns : goal.returns
returns c = shadow.shadowed_never_start
