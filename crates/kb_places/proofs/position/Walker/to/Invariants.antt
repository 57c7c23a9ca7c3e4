use Rattle.std.proofs.Common.{◌≡◌, ◌≤◌, ◌-◌}
use Rattle.kb_places.proofs.position.Walker.to.Given as goal

-- the same text, not behind the index
abbrev pub invariant-loop-walker : goal.invariant-loop-walker
invariant-loop-walker l = (l.walker.text.now ≡ l.fn.self.text.now) × (l.walker.at ≤ l.index)

abbrev pub decreases-loop-walker : goal.decreases-loop-walker
decreases-loop-walker l = l.index - l.walker.at
