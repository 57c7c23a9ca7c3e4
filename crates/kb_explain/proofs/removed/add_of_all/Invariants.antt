use Rattle.std.proofs.Common.{◌≡◌, ◌++◌, drop, map}
use Rattle.std.specs.List.{flat_map}
use Rattle.kb_explain.specs.Removed.{removals_by}
use Rattle.kb_explain.proofs.removed.add_of_all.Given as goal

abbrev pub invariant-loop-extension : goal.invariant-loop-extension
invariant-loop-extension l =
    map (λ r. r.now) l.made.items ++ flat_map removals_by (drop l.extension-index l.extensions)
    ≡ map (λ r. r.now) l.fn.made.items ++ flat_map removals_by l.fn.extensions
