use Rattle.std.proofs.Common.{ℕ, List, drop}
use Rattle.std.specs.Prelude.{Option}
use Rattle.kb_explain_report.specs.Said.{IsTraceLine, WritesEach}
use Rattle.kb_explain_report.proofs.trace_said.say_lines.Given as goal

-- if the writer then gets those that are left, it got all
abbrev pub invariant-loop-place : goal.invariant-loop-place
invariant-loop-place g l = (new : Option (List ℕ))
    → WritesEach IsTraceLine (drop l.place l.lines) (g.W.Write.contents l.out) new
    → WritesEach IsTraceLine l.lines (g.W.Write.contents l.fn.out) new
