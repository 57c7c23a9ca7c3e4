use Rattle.std.proofs.Common.{ℕ, List, length}
use Rattle.std.specs.Prelude.{Option}
use Rattle.kb_context.specs.Scopes.{context}
use Rattle.kb_explain_report.specs.PaletteSaid.{SaysListing}
use Rattle.kb_explain_report.specs.Said.{WritesEach}
use Rattle.kb_explain_report.proofs.palette_said.say_each.Given as goal

-- if the writer then gets those that are left, it got all
abbrev pub invariant-loop-left : goal.invariant-loop-left
invariant-loop-left g l = (new : Option (List ℕ))
    → WritesEach (SaysListing l.form (context l.scopes.seen) l.query l.bindings) l.left
    (g.W.Write.contents l.out) new
    → WritesEach (SaysListing l.form (context l.scopes.seen) l.query l.bindings) l.commands
    (g.W.Write.contents l.fn.out) new

abbrev pub decreases-loop-left : goal.decreases-loop-left
decreases-loop-left g l = length l.left
