use Rattle.std.proofs.Common.{rules, ◌≡◌, ◌≤◌, Some, IsTrue, map, slice_get, length, arith, sym, ap, ◌∙◌}
use Rattle.std.proofs.lemmas.List.{length-map}
use Rattle.std.proofs.lemmas.Option.{slice_get-get_or}
use Rattle.kb_resolve.specs.Enablements.{enablement_in}
use Rattle.kb_lints.specs.CutOff.{IsTakenAt}
use Rattle.kb_lints.proofs.ListLemmas.{mapped_at}
use Rattle.kb_lints.proofs.TakingLemmas.{one_further, all_taken}
use Rattle.kb_lints.proofs.chords.takes_all.Goals as goal

pub loop-place-preserved : goal.loop-place-preserved
loop-place-preserved c =
    let in_force = map (λ r. r.value) c.args.rules.now in
    let enablement = enablement_in c.args.enablements.now in
    let place = c.loop-place.place in
    let next = c.index-rules-place.result in
    let there : slice_get c.args.rules.now place ≡ Some next =
    slice_get-get_or c.args.rules.now place next c.loop-place-test.true ∙ ap Some (sym c.index-rules-place.is) in
    let taken : IsTakenAt enablement c.args.position c.args.rule.now place next.value = search rules in
    one_further enablement in_force c.args.position c.args.rule.now place next.value c.loop-place.invariant
    (mapped_at (λ r. r.value) c.args.rules.now place next there) taken

pub returns : goal.returns
returns c = λ _.
    let in_force = map (λ r. r.value) c.args.rules.now in
    let past : length c.args.rules.now ≤ c.loop-place.place = search rules in
    all_taken (enablement_in c.args.enablements.now) in_force c.args.position c.args.rule.now c.loop-place.place
    c.loop-place.invariant (omega (arith, past, length-map c.args.rules.now (λ r. r.value)))
