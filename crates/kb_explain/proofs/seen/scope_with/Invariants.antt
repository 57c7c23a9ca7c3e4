use Rattle.std.proofs.Common.{◌≡◌, drop}
use Rattle.std.specs.List.{find}
use Rattle.kb_explain.specs.Seen.{has_key}
use Rattle.kb_explain.proofs.seen.scope_with.Given as goal

-- those that are left give the same
abbrev pub invariant-loop-scope : goal.invariant-loop-scope
invariant-loop-scope l =
    find (λ scope. has_key scope l.key) (drop l.scope-index l.all)
    ≡ find (λ scope. has_key scope l.key) l.all
