use Rattle.kb_core.proofs.FitsLemmas.{fits-lengths}
use Rattle.kb_core.proofs.reading.fits.Goals as goal

pub returns-then-params-args : goal.returns-then-params-args
returns-then-params-args c = fits-lengths _ _ c.if-params-args.true
