use Rattle.std.proofs.Common.{◌≡◌, ◌∙◌, sym, ap, ℕ, List, [], ◌∷◌}
use Rattle.std.proofs.lemmas.Result.{IfOk-weaker, IfErr-weaker}
use Rattle.kb_keys.specs.declared.keystroke.Keystroke.{Keystroke}
use Rattle.kb_rules.specs.declared.rule.Rule.{Rule}
use Rattle.kb_context.specs.Scopes.{context}
use Rattle.kb_resolve.specs.Enablements.{enablement_in}
use Rattle.kb_resolve.specs.Index.{rules_at, positions_of, seconds_of}
use Rattle.kb_resolve.specs.Resolver.{chosen, last_where, may_start}
use Rattle.kb_resolve.proofs.SecondLemmas.{chosen-alone, asks-alone, only-one}
use Rattle.kb_resolve.proofs.WalkLemmas.{chosen-at}
use Rattle.kb_resolve.proofs.resolver.Resolver.lowest_with.Goals as goal

pub lowest_behind-requires-clause-seconds : goal.lowest_behind-requires-clause-seconds
lowest_behind-requires-clause-seconds c =
    c.seconds.ensures
    ∙ ap (λ (rules : List Rule). seconds_of rules (positions_of c.args.first.now c.args.self.now)) (sym c.self.view_is)
    ∙ ap (λ (l : List ℕ). seconds_of c.self.inside.set l) (sym c.positions-positions.ensures)

pub returns-in-Some-clause-value : goal.returns-in-Some-clause-value
returns-in-Some-clause-value c =
    let enablement = enablement_in c.args.enablements.now in
    let keys = context c.args.scopes.now.seen in
    let same : chosen c.args.pressed.now keys enablement
    (rules_at c.self.inside.set c.positions-positions.result.now)
    ≡ chosen c.args.pressed.now keys enablement c.args.self.now =
    ap (λ (l : List ℕ). chosen c.args.pressed.now keys enablement (rules_at c.self.inside.set l))
    c.positions-positions.ensures
    ∙ ap (λ (l : List Rule). chosen c.args.pressed.now keys enablement
    (rules_at l (positions_of c.args.first.now c.args.self.now))) c.self.view_is
    ∙ chosen-at keys enablement c.args.first.now c.args.pressed.now c.args.self.now c.requires in
    IfOk-weaker c.lowest_behind.result _ _ (λ found h. h ∙ same) c.lowest_behind.ensures.value

pub returns-in-None-clause-value : goal.returns-in-None-clause-value
returns-in-None-clause-value c =
    let enablement = enablement_in c.args.enablements.now in
    let keys = context c.args.scopes.now.seen in
    let alone : c.args.pressed.now ≡ c.args.first.now ∷ [] =
    only-one c.args.pressed.now c.args.first.now c.requires c.in-None.ensures.lookup.3 in
    let same : last_where (may_start keys enablement) (rules_at c.self.inside.set c.positions-positions.result.now)
    ≡ chosen c.args.pressed.now keys enablement c.args.self.now =
    ap (λ (l : List ℕ). last_where (may_start keys enablement) (rules_at c.self.inside.set l))
    c.positions-positions.ensures
    ∙ ap (λ (l : List Rule). last_where (may_start keys enablement)
    (rules_at l (positions_of c.args.first.now c.args.self.now))) c.self.view_is
    ∙ chosen-alone keys enablement c.args.first.now c.args.self.now
    ∙ ap (λ (strokes : List Keystroke). chosen strokes keys enablement c.args.self.now) (sym alone) in
    IfOk-weaker c.lowest_at.result _ _ (λ found h. h ∙ same) c.lowest_at.ensures.value

pub returns-in-None-clause-memory : goal.returns-in-None-clause-memory
returns-in-None-clause-memory c =
    let enablement = enablement_in c.args.enablements.now in
    let keys = context c.args.scopes.now.seen in
    let alone : c.args.pressed.now ≡ c.args.first.now ∷ [] =
    only-one c.args.pressed.now c.args.first.now c.requires c.in-None.ensures.lookup.3 in
    let among : rules_at c.self.inside.set c.positions-positions.result.now
    ≡ rules_at c.args.self.now (positions_of c.args.first.now c.args.self.now) =
    ap (λ (l : List ℕ). rules_at c.self.inside.set l) c.positions-positions.ensures
    ∙ ap (λ (l : List Rule). rules_at l (positions_of c.args.first.now c.args.self.now)) c.self.view_is in
    IfErr-weaker c.lowest_at.result _ _
    (λ refused h. rw alone
    (asks-alone keys enablement c.args.first.now c.args.self.now (rw (← among) h)))
    c.lowest_at.ensures.memory
