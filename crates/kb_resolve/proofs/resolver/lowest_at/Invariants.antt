use Rattle.std.proofs.Common.{◌≡◌}
use Rattle.std.specs.List.{Any}
use Rattle.std.specs.Slice.Iter.{iter_rest}
use Rattle.std.specs.Iterator.Adapters.{rev_source}
use Rattle.kb_context.specs.Scopes.{context}
use Rattle.kb_resolve.specs.Enablements.{enablement_in}
use Rattle.kb_resolve.specs.Index.{rules_at}
use Rattle.kb_resolve.specs.Resolver.{last_where, may_start, HasPatterns}
use Rattle.kb_resolve.proofs.resolver.lowest_at.Given as goal

-- those that are left give the same, and are among all
abbrev pub invariant-loop-position : goal.invariant-loop-position
invariant-loop-position l = record {
  same : let test = may_start (context l.fn.scopes.seen) (enablement_in l.fn.enablements) in
      last_where test (rules_at l.fn.set (iter_rest (rev_source l.position-iterator)))
      ≡ last_where test (rules_at l.fn.set l.fn.positions);
  among : let asks = HasPatterns (context l.fn.scopes.seen) (enablement_in l.fn.enablements) in
      Any asks (rules_at l.fn.set (iter_rest (rev_source l.position-iterator)))
      → Any asks (rules_at l.fn.set l.fn.positions);
}
