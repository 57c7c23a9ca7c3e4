use Rattle.std.proofs.Common.{◌≡◌, ◌++◌, map, drop}
use Rattle.kb_bindings.proofs.bindings.flags_of.Given as goal

-- one for each so far, and then for those that are left
abbrev pub invariant-loop-extension : goal.invariant-loop-extension
invariant-loop-extension l =
    l.enabled.items ++ map (λ e. e.enabled) (drop l.extension-index l.extensions)
    ≡ map (λ e. e.enabled) l.fn.extensions
