use Rattle.std.proofs.Common.{rules, ◌≡◌, Some, ap, ◌∙◌, option_and_then}
use Rattle.std.specs.FinMap as map
use Rattle.kb_context.specs.Scopes.{context, seat, value_at, ScopesData, RevisedScopes}
use Rattle.kb_context.specs.declared.at_hand.AtHand.{AtHand}
use Rattle.kb_context.proofs.SeatLemmas.{value_at_seat}
use Rattle.kb_context.proofs.scopes.Scopes.get_hashed.Goals as goal

pub returns-clause-value : goal.returns-clause-value
returns-clause-value c =
    let fresh : c.self.inside.made_at ≡ Some c.self.inside.revision = search rules in
    (rw c.as_str-text.ensures at c.value_in_seat.ensures.value)
    ∙ ap (option_and_then (λ at. value_at c.deref-2.result.now at c.args.key.now))
    (c.get-2.ensures
    ∙ ap (λ (a : AtHand). map.get a.flat c.args.key.now) c.deref-3.ensures
    ∙ (c.self.invariant.same fresh).flat c.args.key.now)
    ∙ ap (λ (s : ScopesData). option_and_then (λ at. value_at s at c.args.key.now)
    (seat c.self.inside.tree.value c.args.key.now)) c.deref-2.ensures
    ∙ value_at_seat c.self.inside.tree.value c.args.key.now
    ∙ ap (λ (s : RevisedScopes). map.get (context s.seen) c.args.key.now) c.self.view_is
