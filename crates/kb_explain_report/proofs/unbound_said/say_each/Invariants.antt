use Rattle.std.proofs.Common.{ℕ, List, length}
use Rattle.std.specs.Prelude.{Option}
use Rattle.kb_explain_report.specs.UnboundSaid.{SaysLent}
use Rattle.kb_explain_report.specs.Said.{WritesEach}
use Rattle.kb_explain_report.proofs.unbound_said.say_each.Given as goal

-- if the writer then gets those that are left, it got all
abbrev pub invariant-loop-left : goal.invariant-loop-left
invariant-loop-left g l = (new : Option (List ℕ))
    → WritesEach (SaysLent l.form) l.left (g.W.Write.contents l.out) new
    → WritesEach (SaysLent l.form) l.all (g.W.Write.contents l.fn.out) new

abbrev pub decreases-loop-left : goal.decreases-loop-left
decreases-loop-left g l = length l.left
