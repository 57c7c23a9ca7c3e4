use Rattle.std.proofs.Common.{◌≡◌, drop, map}
use Rattle.kb_core.specs.Signature.{fits}
use Rattle.kb_vm.specs.Operand.{arg_of}
use Rattle.kb_vm.proofs.given.fits_params.Given as goal

-- all fit exactly if the remaining ones do
abbrev pub invariant-loop-i : goal.invariant-loop-i
invariant-loop-i l = fits (drop l.i l.params) (map arg_of (drop l.i l.given)) ≡ fits l.params (map arg_of l.given)
