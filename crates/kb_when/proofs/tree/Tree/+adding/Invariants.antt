use Rattle.std.proofs.Common.{◌≤◌, drop, map, length}
use Rattle.kb_when.specs.Flat.{Extends}
use Rattle.kb_when.specs.Marked.{all_of, any_of}
use Rattle.kb_when.specs.Tree.{marked_of, markeds_of}
use Rattle.kb_when.proofs.tree.Tree.+adding.Given as goal

-- the jumps of the trees so far, which are the last ones
abbrev pub invariant-add_all-loop-i : goal.invariant-add_all-loop-i
invariant-add_all-loop-i l = record {
  within : l.i ≤ length l.trees;
  added : Extends l.fn.jumps.items l.jumps.items (all_of (markeds_of (map marked_of (drop l.i l.trees))))
      l.yes l.no l.place;
}

abbrev pub decreases-add_all-loop-i : goal.decreases-add_all-loop-i
decreases-add_all-loop-i l = l.i

abbrev pub invariant-add_any-loop-i : goal.invariant-add_any-loop-i
invariant-add_any-loop-i l = record {
  within : l.i ≤ length l.trees;
  added : Extends l.fn.jumps.items l.jumps.items (any_of (markeds_of (map marked_of (drop l.i l.trees))))
      l.yes l.no l.place;
}

abbrev pub decreases-add_any-loop-i : goal.decreases-add_any-loop-i
decreases-add_any-loop-i l = l.i
