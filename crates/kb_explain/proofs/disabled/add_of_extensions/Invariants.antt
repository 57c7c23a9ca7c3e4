use Rattle.std.proofs.Common.{◌≡◌, ◌++◌, drop, map}
use Rattle.std.specs.List.{flat_map}
use Rattle.kb_explain.specs.Disabled.{disabled_of}
use Rattle.kb_explain.proofs.disabled.add_of_extensions.Given as goal

abbrev pub invariant-loop-extension : goal.invariant-loop-extension
invariant-loop-extension l =
    map (λ r. r.now) l.made.items ++ flat_map (disabled_of l.strokes) (drop l.extension-index l.extensions)
    ≡ map (λ r. r.now) l.fn.made.items ++ flat_map (disabled_of l.strokes) l.fn.extensions
