use Rattle.std.proofs.Common.{List, ap, ◌∙◌}
use Rattle.kb_context.specs.declared.scope_tree.Scope.{Scope}
use Rattle.kb_context.specs.Draft.{parent_behind}
use Rattle.kb_context.proofs.DraftLemmas.{IsPlaced-after}
use Rattle.kb_context.proofs.draft.Draft.push_fitting.Goals as goal

pub invariant_of-self-2 : goal.invariant_of-self-2
invariant_of-self-2 c =
    IsPlaced-after c.self.inside.scopes.items c.self.inside.places c.args.scope c.args.parent c.placed.result
    _ _ c.self.invariant
    (ap (λ (ss : List Scope). parent_behind ss c.args.scope) c.self.view_is ∙ c.requires)
    c.placed.ensures c.in_ok-push_scope.ensures.scopes c.in_ok-push_scope.ensures.places
