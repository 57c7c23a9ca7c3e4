use Rattle.std.proofs.Common.{◌-◌, length}
use Rattle.kb_places.specs.Children.{IsGap}
use Rattle.kb_places.proofs.scan.skip.Given as goal

-- what was passed over is a gap
abbrev pub invariant-loop-at : goal.invariant-loop-at
invariant-loop-at l = IsGap l.text l.sign l.from l.at

abbrev pub decreases-loop-at : goal.decreases-loop-at
decreases-loop-at l = length l.text - l.at
