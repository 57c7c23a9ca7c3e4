use Rattle.std.proofs.Common.{◌≡◌, length}
use Rattle.kb_problems.specs.Near as near
use Rattle.kb_problems.proofs.near.behind_common.Given as goal

-- what both texts begin with doesn't count
abbrev pub invariant-loop-one : goal.invariant-loop-one
invariant-loop-one l = near.is_near l.one l.other ≡ near.is_near l.fn.one l.fn.other

abbrev pub decreases-loop-one : goal.decreases-loop-one
decreases-loop-one l = length l.one
