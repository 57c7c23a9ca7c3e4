use Rattle.std.proofs.Common.{◌≡◌, ◌++◌, drop, map}
use Rattle.kb_core.specs.Parameter.{declared}
use Rattle.kb_core.proofs.native.owned.Given as goal

-- the parameters so far, and then those that are left
abbrev pub invariant-loop-param : goal.invariant-loop-param
invariant-loop-param l = l.owned ++ map declared (drop l.param-index l.params) ≡ map declared l.params
