use Rattle.std.proofs.Common.{◌≡◌, ◌++◌}
use Rattle.std.specs.Vec.Iter.{into_iter_items}
use Rattle.kb_manifest.proofs.manifest.ids_of.Given as goal

-- what there is, and then those that are left
abbrev pub invariant-loop-text : goal.invariant-loop-text
invariant-loop-text l = l.ids ++ into_iter_items l.text-iterator ≡ l.fn.texts
