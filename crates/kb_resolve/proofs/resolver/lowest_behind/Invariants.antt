use Rattle.std.proofs.Common.{◌≡◌, take}
use Rattle.kb_context.specs.Scopes.{context}
use Rattle.kb_resolve.specs.Enablements.{enablement_in}
use Rattle.kb_resolve.specs.Index.{rules_at}
use Rattle.kb_resolve.specs.Resolver.{chosen}
use Rattle.kb_resolve.proofs.resolver.lowest_behind.Given as goal

-- those that are left give the same
abbrev pub invariant-loop-place : goal.invariant-loop-place
invariant-loop-place l =
    chosen l.fn.pressed (context l.fn.scopes.seen) (enablement_in l.fn.enablements)
    (rules_at l.fn.set (take l.place l.fn.positions))
    ≡ chosen l.fn.pressed (context l.fn.scopes.seen) (enablement_in l.fn.enablements)
    (rules_at l.fn.set l.fn.positions)
