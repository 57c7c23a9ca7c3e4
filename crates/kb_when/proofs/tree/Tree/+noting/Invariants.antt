use Rattle.std.proofs.Common.{◌≡◌, drop, map}
use Rattle.kb_when.specs.Marked.{all_patterns_in}
use Rattle.kb_when.specs.Tree.{marked_of, markeds_of}
use Rattle.kb_when.specs.Unread.{note_all, HaveRightMarks}
use Rattle.kb_when.proofs.tree.Tree.+noting.Given as goal

-- with those that are left the same is noted, and where their marks are right, all are
abbrev pub invariant-note_trees-loop-tree : goal.invariant-note_trees-loop-tree
invariant-note_trees-loop-tree l =
    (note_all l.noted (all_patterns_in (markeds_of (map marked_of (drop l.tree-index l.trees))))
    ≡ note_all l.initial.noted (all_patterns_in (markeds_of (map marked_of l.trees))))
    × (HaveRightMarks (all_patterns_in (markeds_of (map marked_of (drop l.tree-index l.trees))))
    → HaveRightMarks (all_patterns_in (markeds_of (map marked_of l.trees))))
