use Rattle.std.proofs.Common.{◌≡◌, ◌++◌, map}
use Rattle.std.specs.Prelude.{All}
use Rattle.std.specs.Slice.Iter.{iter_rest}
use Rattle.std.specs.Iterator.Adapters.{rev_source}
use Rattle.kb_context.specs.Scopes.{context}
use Rattle.kb_explain.specs.Press.{passed_over, IsRightlyPassed}
use Rattle.kb_resolve.specs.Enablements.{enablement_in}
use Rattle.kb_resolve.specs.Resolver.{chosen}
use Rattle.kb_explain.proofs.press.pass_over.Given as goal

-- with the rules that are left the same is passed over and taken
abbrev pub invariant-loop-rule : goal.invariant-loop-rule
invariant-loop-rule l = record {
  taken : chosen l.fn.strokes (context l.fn.scopes.seen) (enablement_in l.fn.enablements)
      (map (λ r. r.value) (iter_rest (rev_source l.rule-iterator)))
      ≡ chosen l.fn.strokes (context l.fn.scopes.seen) (enablement_in l.fn.enablements)
      (map (λ r. r.value) l.fn.rules);
  passed : map (λ one. one.rule.now) l.passed.items
      ++ passed_over l.fn.strokes (context l.fn.scopes.seen) (enablement_in l.fn.enablements)
      (map (λ r. r.value) (iter_rest (rev_source l.rule-iterator)))
      ≡ map (λ one. one.rule.now) l.fn.passed.items
      ++ passed_over l.fn.strokes (context l.fn.scopes.seen) (enablement_in l.fn.enablements)
      (map (λ r. r.value) l.fn.rules);
  right : All (IsRightlyPassed (context l.fn.scopes.seen) (enablement_in l.fn.enablements)) l.fn.passed.items
      → All (IsRightlyPassed (context l.fn.scopes.seen) (enablement_in l.fn.enablements)) l.passed.items;
}
