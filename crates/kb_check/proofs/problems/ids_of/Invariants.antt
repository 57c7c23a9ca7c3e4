use Rattle.std.proofs.Common.{◌≡◌, map, take}
use Rattle.kb_check.proofs.problems.ids_of.Given as goal

abbrev pub invariant-loop-extension : goal.invariant-loop-extension
invariant-loop-extension l =
    l.ids.items ≡ map (λ e. e.manifest.id) (take l.extension-index l.extensions)
