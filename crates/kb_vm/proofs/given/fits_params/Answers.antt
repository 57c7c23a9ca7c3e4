use Rattle.kb_vm.proofs.Fitting.{other_lengths_of}
use Rattle.kb_vm.proofs.given.fits_params.Goals as goal

pub returns-then-params-given : goal.returns-then-params-given
returns-then-params-given c = other_lengths_of _ _ _ c.if-params-given.true
