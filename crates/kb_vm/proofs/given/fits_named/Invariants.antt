use Rattle.std.proofs.Common.{◌≡◌, drop, map}
use Rattle.kb_core.specs.Parameter.{declared}
use Rattle.kb_core.specs.Signature.{fits}
use Rattle.kb_vm.specs.Operand.{arg_of}
use Rattle.kb_vm.proofs.given.fits_named.Given as goal

-- all fit exactly if the remaining ones do
abbrev pub invariant-loop-i : goal.invariant-loop-i
invariant-loop-i l =
    fits (map declared (drop l.i l.params)) (map arg_of (drop l.i l.given)) ≡ fits (map declared l.params) (map arg_of l.given)
