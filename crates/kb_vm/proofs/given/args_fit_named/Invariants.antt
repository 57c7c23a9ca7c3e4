use Rattle.std.proofs.Common.{◌≡◌, drop, map}
use Rattle.kb_core.specs.Parameter.{declared}
use Rattle.kb_core.specs.Signature.{fits}
use Rattle.kb_vm.proofs.given.args_fit_named.Given as goal

-- all fit exactly if the remaining ones do
abbrev pub invariant-loop-i : goal.invariant-loop-i
invariant-loop-i l = fits (map declared (drop l.i l.params)) (drop l.i l.args) ≡ fits (map declared l.params) l.args
