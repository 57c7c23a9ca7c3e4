use Rattle.std.proofs.Common.{◌≡◌, ◌++◌, map, drop}
use Rattle.kb_bindings.proofs.bindings.lists_of.Given as goal

-- the lists so far, and then those that are left
abbrev pub invariant-loop-extension : goal.invariant-loop-extension
invariant-loop-extension l =
    map (λ list. list.now) l.lists.items ++ map (λ e. e.rules) (drop l.extension-index l.extensions)
    ≡ map (λ e. e.rules) l.fn.extensions
