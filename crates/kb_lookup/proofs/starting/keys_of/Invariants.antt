use Rattle.std.proofs.Common.{◌≡◌, drop, map}
use Rattle.kb_bindings.specs.Sources.{enablement, rules_of}
use Rattle.kb_context.specs.Scopes.{context}
use Rattle.kb_lookup.specs.Starting.{from_below, is_start}
use Rattle.kb_lookup.proofs.starting.keys_of.Given as goal

-- those of the rules that were walked over
abbrev pub invariant-loop-position : goal.invariant-loop-position
invariant-loop-position l = map (λ r. r.now) l.made.items
    ≡ from_below (is_start (context l.fn.scopes.seen) (enablement l.fn.bindings) (rules_of l.fn.bindings)
    l.fn.command) (drop l.position l.resolver)
