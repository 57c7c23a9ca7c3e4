use Rattle.std.proofs.Common.{rules, ◌≡◌, ℕ, Some, map, slice_get}
use Rattle.kb_lints.specs.Hidden.{IsHidden}
use Rattle.kb_lints.specs.declared.hidden.Hidden.{Hidden}
use Rattle.kb_resolve.specs.Enablements.{enablement_in}
use Rattle.kb_lints.proofs.ListLemmas.{one_of}
use Rattle.kb_check.proofs.hidden_lints.add_hidden.Goals as goal

pub loop-number-preserved : goal.loop-number-preserved
loop-number-preserved c = λ before.
    let enablement = enablement_in c.args.enablements.now in
    let in_force = map (λ r. r.value) c.args.rules.now in
    let P : Hidden → Type 0 = IsHidden c.args.how enablement in_force in
    let found = c.in_ok-found.found.items in
    let one = c.in-Some.hidden in
    let at : (place : ℕ) × (slice_get found place ≡ Some one) = search rules in
    c.in_ok-add_one.ensures enablement (one_of P found at.0 one c.in_ok-found.ensures at.1)
    (c.loop-number.invariant before)
