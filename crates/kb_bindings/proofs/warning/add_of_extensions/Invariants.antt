use Rattle.std.proofs.Common.{◌≡◌, ◌++◌, drop}
use Rattle.std.specs.List.{flat_map}
use Rattle.kb_bindings.specs.Warning.{of_extension}
use Rattle.kb_bindings.proofs.warning.add_of_extensions.Given as goal

-- those so far, and then those of the extensions that are left
abbrev pub invariant-loop-extension : goal.invariant-loop-extension
invariant-loop-extension l =
    l.all ++ flat_map of_extension (drop l.extension-index l.extensions)
    ≡ l.fn.all ++ flat_map of_extension l.fn.extensions
