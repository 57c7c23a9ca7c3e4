use Rattle.std.proofs.Common.{◌≡◌, take}
use Rattle.kb_context.specs.Scopes.{context}
use Rattle.kb_resolve.specs.Enablements.{enablement_in}
use Rattle.kb_resolve.specs.Resolver.{chosen}
use Rattle.kb_resolve.proofs.resolver.lowest_of.Given as goal

-- those above give the same
abbrev pub invariant-loop-position : goal.invariant-loop-position
invariant-loop-position l =
    chosen l.fn.pressed (context l.fn.scopes.seen) (enablement_in l.fn.enablements) (take l.position l.fn.set)
    ≡ chosen l.fn.pressed (context l.fn.scopes.seen) (enablement_in l.fn.enablements) l.fn.set
