use Rattle.std.proofs.Common.{◌≡◌, drop}
use Rattle.kb_extension_code.specs.Dependencies.{missing_dependency}
use Rattle.kb_extension_code.proofs.dependencies.missing_dependency.Given as goal

-- the search in the remaining dependencies gives the result
abbrev pub invariant-loop-id : goal.invariant-loop-id
invariant-loop-id l =
    missing_dependency (drop l.id-index l.ids) l.extensions ≡ missing_dependency l.ids l.extensions
