use Rattle.std.proofs.Common.{◌≡◌, ◌++◌, map, take}
use Rattle.kb_assembly.specs.Write.{call_line}
use Rattle.kb_assembly.proofs.write.push_calls.Given as goal

abbrev pub invariant-loop-call : goal.invariant-loop-call
invariant-loop-call l = l.lines ≡ l.fn.lines ++ map call_line (take l.call-index l.calls)
