use Rattle.std.proofs.Common.{◌≡◌, ◌∙◌, ◌-◌, sym, ap, arith, suc, Some, rules}
use Rattle.kb_lookup.specs.GoingOn.{next_keys, with_key}
use Rattle.kb_lookup.proofs.WalkLemmas.{drop-here, drop-past}
use Rattle.kb_lookup.proofs.going_on.next_keys.Goals as goal

pub loop-position-preserved-in-Continue-1 : goal.loop-position-preserved-in-Continue-1
loop-position-preserved-in-Continue-1 c =
    let one : c.loop-position.position ≡ suc (c.loop-position.position - 1) =
    omega (arith, c.loop-position-test.true) in
    let here = drop-here c.args.resolver.now c.loop-position.position (c.loop-position.position - 1)
    c.in-Some.rule.now one (sym c.in-Some.ensures) in
    let added : c.add_key.new.made.items ≡ with_key (Some c.in-Some-next_key.key) c.loop-position.made.items =
    search rules in
    rw here (added ∙ search rules)

pub loop-position-preserved-in_default-next_key : goal.loop-position-preserved-in_default-next_key
loop-position-preserved-in_default-next_key c =
    let one : c.loop-position.position ≡ suc (c.loop-position.position - 1) =
    omega (arith, c.loop-position-test.true) in
    let here = drop-here c.args.resolver.now c.loop-position.position (c.loop-position.position - 1)
    c.in-Some.rule.now one (sym c.in-Some.ensures) in
    rw here (search rules)

pub loop-position-preserved : goal.loop-position-preserved
loop-position-preserved c =
    let one : c.loop-position.position ≡ suc (c.loop-position.position - 1) =
    omega (arith, c.loop-position-test.true) in
    c.loop-position.invariant
    ∙ ap (next_keys c.args.pressed.now)
    (sym (drop-past c.args.resolver.now c.loop-position.position (c.loop-position.position - 1) one
    (sym c.in_default.ensures)))
