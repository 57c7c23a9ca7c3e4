use Rattle.kb_vm.proofs.Fitting.{other_lengths_seen}
use Rattle.kb_vm.proofs.given.fits_named.Goals as goal

pub returns-then-params-given : goal.returns-then-params-given
returns-then-params-given c = other_lengths_seen _ _ _ _ c.if-params-given.true
