use Rattle.std.proofs.Common.{◌≡◌, ◌∙◌, ◌-◌, sym, ap, arith, drop, false, suc, true, rules}
use Rattle.kb_bindings.specs.Sources.{enablement, rules_of}
use Rattle.kb_context.specs.Scopes.{context}
use Rattle.kb_lookup.specs.Starting.{from_below, is_start, with_new}
use Rattle.kb_lookup.proofs.StartingLemmas.{failing, keys_are, passing}
use Rattle.kb_lookup.proofs.WalkLemmas.{drop-here, drop-past}
use Rattle.kb_lookup.proofs.starting.keys_of.Goals as goal

pub loop-position-preserved-in-Continue-branch-2 : goal.loop-position-preserved-in-Continue-branch-2
loop-position-preserved-in-Continue-branch-2 c =
    let one : c.loop-position.position ≡ suc (c.loop-position.position - 1) =
    omega (arith, c.loop-position-test.true) in
    let test = is_start (context c.args.scopes.now.seen) (enablement c.args.bindings.now)
    (rules_of c.args.bindings.now) c.args.command.now in
    let here = drop-here c.resolver-resolver.result.now c.loop-position.position (c.loop-position.position - 1)
    c.in-Some.rule.now one (sym c.in-Some.ensures) in
    let below = drop c.loop-position.position c.resolver-resolver.result.now in
    let passes : test c.in-Some.rule.now ≡ true = search rules in
    search rules
    ∙ ap (with_new c.in-Some.rule.now) c.loop-position.invariant
    ∙ sym (ap (from_below test) here ∙ passing test c.in-Some.rule.now below passes)

pub loop-position-preserved-else-branch : goal.loop-position-preserved-else-branch
loop-position-preserved-else-branch c =
    let one : c.loop-position.position ≡ suc (c.loop-position.position - 1) =
    omega (arith, c.loop-position-test.true) in
    let test = is_start (context c.args.scopes.now.seen) (enablement c.args.bindings.now)
    (rules_of c.args.bindings.now) c.args.command.now in
    let here = drop-here c.resolver-resolver.result.now c.loop-position.position (c.loop-position.position - 1)
    c.in-Some.rule.now one (sym c.in-Some.ensures) in
    let below = drop c.loop-position.position c.resolver-resolver.result.now in
    let fails : test c.in-Some.rule.now ≡ false = search rules in
    c.loop-position.invariant
    ∙ sym (ap (from_below test) here ∙ failing test c.in-Some.rule.now below fails)

pub loop-position-preserved : goal.loop-position-preserved
loop-position-preserved c =
    let one : c.loop-position.position ≡ suc (c.loop-position.position - 1) =
    omega (arith, c.loop-position-test.true) in
    let test = is_start (context c.args.scopes.now.seen) (enablement c.args.bindings.now)
    (rules_of c.args.bindings.now) c.args.command.now in
    c.loop-position.invariant
    ∙ ap (from_below test)
    (sym (drop-past c.resolver-resolver.result.now c.loop-position.position (c.loop-position.position - 1) one
    (sym c.in_default.ensures)))

pub returns-in_err-is_start-clause-exactly : goal.returns-in_err-is_start-clause-exactly
returns-in_err-is_start-clause-exactly c = keys_are (context c.args.scopes.now.seen) (enablement c.args.bindings.now)
    (rules_of c.args.bindings.now) c.args.command.now

pub returns-in_err-add_new-clause-exactly : goal.returns-in_err-add_new-clause-exactly
returns-in_err-add_new-clause-exactly c = keys_are (context c.args.scopes.now.seen) (enablement c.args.bindings.now)
    (rules_of c.args.bindings.now) c.args.command.now

pub returns-clause-exactly : goal.returns-clause-exactly
returns-clause-exactly c = keys_are (context c.args.scopes.now.seen) (enablement c.args.bindings.now)
    (rules_of c.args.bindings.now) c.args.command.now
