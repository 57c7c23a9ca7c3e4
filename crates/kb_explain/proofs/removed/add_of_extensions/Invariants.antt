use Rattle.std.proofs.Common.{◌≡◌, ◌++◌, drop, map}
use Rattle.std.specs.List.{flat_map}
use Rattle.kb_explain.specs.Removed.{pairs_of, removed_of}
use Rattle.kb_explain.proofs.removed.add_of_extensions.Given as goal

abbrev pub invariant-loop-extension : goal.invariant-loop-extension
invariant-loop-extension l =
    pairs_of l.made.items
    ++ flat_map (removed_of (map (λ r. r.now) l.removals) l.strokes) (drop l.extension-index l.extensions)
    ≡ pairs_of l.fn.made.items
    ++ flat_map (removed_of (map (λ r. r.now) l.removals) l.strokes) l.fn.extensions
