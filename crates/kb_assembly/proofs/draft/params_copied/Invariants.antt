use Rattle.std.proofs.Common.{◌≡◌, take}
use Rattle.kb_assembly.proofs.draft.params_copied.Given as goal

abbrev pub invariant-loop-param : goal.invariant-loop-param
invariant-loop-param l = l.made ≡ take l.param-index l.params
