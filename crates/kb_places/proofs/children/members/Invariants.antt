use Rattle.std.proofs.Common.{◌+◌, ◌-◌}
use Rattle.kb_places.specs.Children.{AreMembersInTurn}
use Rattle.kb_places.proofs.children.members.Given as goal

-- the members so far stand in turn before the index
abbrev pub invariant-loop-at : goal.invariant-loop-at
invariant-loop-at l = AreMembersInTurn l.text (l.object.begin + 1) l.found.items l.at

abbrev pub decreases-loop-at : goal.decreases-loop-at
decreases-loop-at l = l.object.end - l.at
