use Rattle.std.proofs.Common.{ℕ, List, length}
use Rattle.std.specs.Prelude.{Option}
use Rattle.kb_keycheck.specs.Pressing.{SaysStrokes}
use Rattle.kb_keycheck.proofs.pressing.explain.Given as goal

-- if what is left is said then, all is said
abbrev pub invariant-loop-left : goal.invariant-loop-left
invariant-loop-left g l = (new : Option (List ℕ))
    → SaysStrokes l.form l.left l.session.state (g.W.Write.contents l.out) new
    → SaysStrokes l.form l.strokes l.fn.session.state (g.W.Write.contents l.fn.out) new

abbrev pub decreases-loop-left : goal.decreases-loop-left
decreases-loop-left g l = length l.left
