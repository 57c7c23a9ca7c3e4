use Rattle.kb_context.proofs.ScopesLemmas.{placed_within}
use Rattle.kb_context.proofs.scope_tree.ScopeTree.focus.Goals as goal

pub invariant_of-self : goal.invariant_of-self
invariant_of-self c = record {
  inside = placed_within c.args.scope.now c.self.inside.scopes.items c.self.inside.places _
      (c.self.invariant.placed c.args.scope.now) c.in-Some.ensures;
  rooted = c.self.invariant.rooted;
  placed = c.self.invariant.placed;
  counted = c.self.invariant.counted;
  few = c.self.invariant.few;
}
