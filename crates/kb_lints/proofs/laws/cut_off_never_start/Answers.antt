use Rattle.kb_lints.proofs.CutOffLemmas as cut_off
use Rattle.kb_lints.proofs.laws.cut_off_never_start.Goals as goal

pub returns : goal.returns
returns c = cut_off.cut_off_never_start
