use Rattle.std.proofs.Common.{◌≡◌, ◌∙◌, ◌-◌, sym, ap, arith, suc, Some, true, false, rules}
use Rattle.kb_context.specs.Scopes.{context}
use Rattle.kb_resolve.specs.Enablements.{enablement_in}
use Rattle.kb_resolve.specs.Resolver.{matches}
use Rattle.kb_resolve.proofs.WalkLemmas.{up-passes, up-fails, up-absent}
use Rattle.kb_resolve.proofs.resolver.lowest_of.Goals as goal

pub returns-then-branch-clause-value : goal.returns-then-branch-clause-value
returns-then-branch-clause-value c =
    let test = matches (context c.args.scopes.now.seen) (enablement_in c.args.enablements.now) c.args.pressed.now in
    let passes : test c.in-Some.rule.now.value ≡ true = search rules in
    let one : c.loop-position.position ≡ suc (c.loop-position.position - 1) =
    omega (arith, c.loop-position-test.true) in
    ap Some c.deref-then-branch.ensures
    ∙ sym
    (up-passes test c.args.set.now c.loop-position.position (c.loop-position.position - 1) c.in-Some.rule.now.value
    one (sym c.in-Some.ensures) passes)
    ∙ c.loop-position.invariant

pub loop-position-preserved-else-branch : goal.loop-position-preserved-else-branch
loop-position-preserved-else-branch c =
    let test = matches (context c.args.scopes.now.seen) (enablement_in c.args.enablements.now) c.args.pressed.now in
    let fails : test c.in-Some.rule.now.value ≡ false = search rules in
    let one : c.loop-position.position ≡ suc (c.loop-position.position - 1) =
    omega (arith, c.loop-position-test.true) in
    sym
    (up-fails test c.args.set.now c.loop-position.position (c.loop-position.position - 1) c.in-Some.rule.now.value
    one (sym c.in-Some.ensures) fails)
    ∙ c.loop-position.invariant

pub loop-position-preserved : goal.loop-position-preserved
loop-position-preserved c =
    let test = matches (context c.args.scopes.now.seen) (enablement_in c.args.enablements.now) c.args.pressed.now in
    let one : c.loop-position.position ≡ suc (c.loop-position.position - 1) =
    omega (arith, c.loop-position-test.true) in
    sym
    (up-absent test c.args.set.now c.loop-position.position (c.loop-position.position - 1) one
    (sym c.in_default.ensures))
    ∙ c.loop-position.invariant
