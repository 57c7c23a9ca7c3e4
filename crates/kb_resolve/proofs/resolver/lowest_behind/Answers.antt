use Rattle.std.proofs.Common.{◌≡◌, ◌∙◌, ◌-◌, sym, ap, arith, suc, get_or, Some, true, false, rules}
use Rattle.kb_context.specs.Scopes.{context}
use Rattle.kb_resolve.specs.Enablements.{enablement_in}
use Rattle.kb_resolve.specs.Resolver.{matches, AsksPattern}
use Rattle.kb_resolve.proofs.ResolverLemmas.{any_err, one_at}
use Rattle.kb_resolve.proofs.SecondLemmas.{passed-over, place-passes, place-fails}
use Rattle.kb_resolve.proofs.resolver.lowest_behind.Goals as goal

pub loop-place-preserved-then-seconds-place : goal.loop-place-preserved-then-seconds-place
loop-place-preserved-then-seconds-place c =
    let one : c.loop-place.place ≡ suc (c.loop-place.place - 1) = omega (arith, c.loop-place-test.true) in
    sym
    (passed-over (context c.args.scopes.now.seen) (enablement_in c.args.enablements.now) c.args.pressed.now
    c.args.second.now c.args.set.now c.args.positions.now c.loop-place.place (c.loop-place.place - 1) one
    (omega (arith, c.loop-place-test.true)) c.requires.second
    (λ same. c.if-seconds-place.true
    (ap (λ seconds. get_or seconds (c.loop-place.place - 1) 0) c.requires.seconds ∙ same
    ∙ sym c.second_number-wanted.ensures)))
    ∙ c.loop-place.invariant

pub returns-in_err-matches-clause-memory : goal.returns-in_err-matches-clause-memory
returns-in_err-matches-clause-memory c =
    let asks = AsksPattern (context c.args.scopes.now.seen) (enablement_in c.args.enablements.now) c.args.pressed.now in
    any_err c.from_residual.result _
    (one_at asks c.args.set.now _ c.in-Some.rule.now.value (sym c.in-Some.ensures)
    (rw (← c.deref.ensures) c.in_err-matches.ensures.memory))

pub returns-then-branch-clause-value : goal.returns-then-branch-clause-value
returns-then-branch-clause-value c =
    let test = matches (context c.args.scopes.now.seen) (enablement_in c.args.enablements.now) c.args.pressed.now in
    let passes : test c.in-Some.rule.now.value ≡ true = search rules in
    let one : c.loop-place.place ≡ suc (c.loop-place.place - 1) = omega (arith, c.loop-place-test.true) in
    ap Some c.deref-then-branch.ensures
    ∙ sym
    (place-passes test c.args.set.now c.args.positions.now c.loop-place.place (c.loop-place.place - 1)
    c.in-Some.rule.now.value one (omega (arith, c.loop-place-test.true)) (sym c.in-Some.ensures) passes)
    ∙ c.loop-place.invariant

pub loop-place-preserved-else-branch : goal.loop-place-preserved-else-branch
loop-place-preserved-else-branch c =
    let test = matches (context c.args.scopes.now.seen) (enablement_in c.args.enablements.now) c.args.pressed.now in
    let fails : test c.in-Some.rule.now.value ≡ false = search rules in
    let one : c.loop-place.place ≡ suc (c.loop-place.place - 1) = omega (arith, c.loop-place-test.true) in
    sym
    (place-fails test c.args.set.now c.args.positions.now c.loop-place.place (c.loop-place.place - 1)
    c.in-Some.rule.now.value one (omega (arith, c.loop-place-test.true)) (sym c.in-Some.ensures) fails)
    ∙ c.loop-place.invariant
