use Rattle.std.proofs.Common.{◌≡◌, take}
use Rattle.kb_verify.proofs.callable.copied.Given as goal

abbrev pub invariant-loop-param : goal.invariant-loop-param
invariant-loop-param l = l.copied ≡ take l.param-index l.fn.params
