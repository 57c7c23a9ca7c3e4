use Rattle.std.proofs.Common.{◌≡◌, drop}
use Rattle.kb_core.specs.Signature.{fits}
use Rattle.kb_core.proofs.reading.fits.Given as goal

-- those that are left fit as all do
abbrev pub invariant-loop-i : goal.invariant-loop-i
invariant-loop-i l = fits (drop l.i l.params) (drop l.i l.args) ≡ fits l.params l.args
