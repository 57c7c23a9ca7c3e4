use Rattle.std.proofs.Common.{ℕ, List, length}
use Rattle.std.specs.Prelude.{Option}
use Rattle.kb_explain_report.specs.DisabledSaid.{SaysIdle}
use Rattle.kb_explain_report.specs.Said.{WritesEach}
use Rattle.kb_explain_report.proofs.disabled_said.say_each.Given as goal

-- if the writer then gets those that are left, it got all
abbrev pub invariant-loop-left : goal.invariant-loop-left
invariant-loop-left g l = (new : Option (List ℕ))
    → WritesEach (SaysIdle l.form l.named) l.left (g.W.Write.contents l.out) new
    → WritesEach (SaysIdle l.form l.named) l.all (g.W.Write.contents l.fn.out) new

abbrev pub decreases-loop-left : goal.decreases-loop-left
decreases-loop-left g l = length l.left
