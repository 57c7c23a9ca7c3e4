use Rattle.kb_lints.proofs.ExtendedLemmas as lemmas
use Rattle.kb_lints.proofs.laws.extended_never_start.Goals as goal

pub returns : goal.returns
returns c = lemmas.extended_never_start
