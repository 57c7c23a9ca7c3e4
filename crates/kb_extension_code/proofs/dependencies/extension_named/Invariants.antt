use Rattle.std.proofs.Common.{◌≡◌, drop}
use Rattle.kb_extension_code.specs.Dependencies.{extension_named, named_from}
use Rattle.kb_extension_code.proofs.dependencies.extension_named.Given as goal

-- the search among the remaining extensions gives the result
abbrev pub invariant-loop-place : goal.invariant-loop-place
invariant-loop-place l =
    named_from l.place l.id (drop l.place l.extensions) ≡ extension_named l.id l.extensions
