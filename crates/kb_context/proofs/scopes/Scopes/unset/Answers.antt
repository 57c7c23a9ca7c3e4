use Rattle.std.proofs.Common.{ap, ◌∙◌}
use Rattle.kb_context.specs.Scopes.{ScopesData, without_value}
use Rattle.kb_context.proofs.SightLemmas.{unset_at_hand}
use Rattle.kb_context.proofs.scopes.Scopes.unset.Goals as goal

pub follow-self-inside-requires-clause-but : goal.follow-self-inside-requires-clause-but
follow-self-inside-requires-clause-but c = λ fresh.
    rw c.deref_mut-2.ensures.value (rw c.deref.ensures (
    unset_at_hand c.self.inside.tree.value c.unset.new.self c.self.inside.at_hand.value c.args.scope.now c.args.key.now
    (c.in_ok-unset.ensures.ok
    ∙ ap (λ (s : ScopesData). without_value s c.args.scope.now c.args.key.now) c.deref_mut.ensures.value)
    (c.self.invariant.same fresh)))
