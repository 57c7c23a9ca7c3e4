use Rattle.std.proofs.Common.{◌≡◌, Some, sym, subst, ap, ◌∙◌}
use Rattle.std.specs.FinMap.{get}
use Rattle.kb_context.specs.Scopes.{ScopesData, ChangesOnly, IsFlat, context, with_value_at}
use Rattle.kb_context.specs.declared.at_hand.AtHand.{AtHand}
use Rattle.kb_context.proofs.SightLemmas.{set_at_hand, flat_stays, value_seen}
use Rattle.kb_context.proofs.scopes.Scopes.set_at.Goals as goal

pub follow_set-self-inside-requires-clause-changed : goal.follow_set-self-inside-requires-clause-changed
follow_set-self-inside-requires-clause-changed c = λ fresh.
    rw c.deref_mut-2.ensures.value (rw c.deref-2.ensures (
    set_at_hand c.self.inside.tree.value c.set_at.new.self c.self.inside.at_hand.value c.args.at c.args.key.now
    c.args.value
    (c.in_ok-set_at.ensures.ok
    ∙ ap (λ (s : ScopesData). with_value_at s c.args.at c.args.key.now c.args.value) c.deref_mut.ensures.value)
    (c.self.invariant.same fresh)))

pub follow_set-self-inside-requires-clause-stays : goal.follow_set-self-inside-requires-clause-stays
follow_set-self-inside-requires-clause-stays c = λ t.
    let fresh = c.is_seat-stays.ensures.now t in
    let is : IsFlat c.self.inside.tree.value c.self.inside.at_hand.value.flat = (c.self.invariant.same fresh).flat in
    let has : get c.self.inside.at_hand.value.flat c.args.key.now ≡ Some c.args.at =
    ap (λ (a : AtHand). get a.flat c.args.key.now) (sym c.deref.ensures) ∙ c.is_seat-stays.ensures.seat t in
    let new : c.set_at.new.self ≡ with_value_at c.self.inside.tree.value c.args.at c.args.key.now c.args.value =
    c.in_ok-set_at.ensures.ok
    ∙ ap (λ (s : ScopesData). with_value_at s c.args.at c.args.key.now c.args.value) c.deref_mut.ensures.value in
    let only : ChangesOnly c.self.inside.tree.value c.set_at.new.self c.args.at c.args.key.now (Some c.args.value) =
    subst (λ (s : ScopesData). ChangesOnly s c.set_at.new.self c.args.at c.args.key.now (Some c.args.value))
    c.deref_mut.ensures.value c.in_ok-set_at.ensures.change in
    let kept : IsFlat c.deref-2.result.now c.deref_mut-2.result.now.flat =
    rw c.deref_mut-2.ensures.value (rw c.deref-2.ensures (
    flat_stays c.self.inside.tree.value c.set_at.new.self c.self.inside.at_hand.value.flat c.args.at c.args.key.now
    c.args.value new is has)) in (
      (
        kept,
        c.of-hash.ensures.tells (context c.deref-2.result.now) c.of-hash.result.0
            (ap (λ (s : ScopesData). get (context s) c.args.key.now) c.deref-2.ensures
            ∙ value_seen c.self.inside.tree.value c.set_at.new.self c.self.inside.at_hand.value.flat c.args.at
            c.args.key.now c.args.value new is has only),
      ),
      (fresh, c.is_seat-stays.ensures.below t),
    )
