use Rattle.std.proofs.Common.{◌≡◌, ◌++◌, drop, filter}
use Rattle.kb_bindings.specs.Sources.{enablement, rules_of}
use Rattle.kb_context.specs.Scopes.{context}
use Rattle.kb_lookup.specs.GoingOn.{goes_on}
use Rattle.kb_lookup.proofs.going_on.continuations.Given as goal

-- with those that are left there are all
abbrev pub invariant-loop-key : goal.invariant-loop-key
invariant-loop-key l =
    let test = goes_on (context l.fn.scopes.seen) (enablement l.fn.bindings) (rules_of l.fn.bindings) l.fn.pressed in
    l.made.items ++ filter test (drop l.key-index l.key-items) ≡ filter test l.key-items
