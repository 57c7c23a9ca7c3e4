use Rattle.std.proofs.Common.{◌≡◌, ◌++◌, drop}
use Rattle.std.specs.List.{flat_map}
use Rattle.kb_bindings.specs.Sources.{contributions_of}
use Rattle.kb_bindings.proofs.bindings.all_contributions.Given as goal

-- those so far, and then those of the extensions that are left
abbrev pub invariant-loop-extension : goal.invariant-loop-extension
invariant-loop-extension l =
    l.made.items ++ flat_map contributions_of (drop l.extension-index l.extensions)
    ≡ flat_map contributions_of l.fn.extensions
