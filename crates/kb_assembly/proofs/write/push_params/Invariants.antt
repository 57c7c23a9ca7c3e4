use Rattle.std.proofs.Common.{◌≡◌, ◌++◌, map, take}
use Rattle.kb_assembly.specs.Write.{param_line}
use Rattle.kb_assembly.proofs.write.push_params.Given as goal

abbrev pub invariant-loop-param : goal.invariant-loop-param
invariant-loop-param l = l.lines ≡ l.fn.lines ++ map param_line (take l.param-index l.params)
