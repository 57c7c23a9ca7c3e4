use Rattle.std.proofs.Common.{length, subst, ◌<◌}
use Rattle.kb_context.specs.Scopes.{ScopesData}
use Rattle.kb_context.proofs.ScopesLemmas.{placed_within}
use Rattle.kb_context.proofs.scope_tree.ScopeTree.place.Goals as goal

pub returns-in-Some-clause-inside : goal.returns-in-Some-clause-inside
returns-in-Some-clause-inside c =
    subst (λ (s : ScopesData). c.in-Some.field-0.now < length s.scopes) c.self.view_is
    (placed_within c.args.scope.now c.self.inside.scopes.items c.self.inside.places _
    (c.self.invariant.placed c.args.scope.now) c.in-Some.ensures)
