use Rattle.std.proofs.Common.{rules, ◌≡◌, ◌<◌, ℕ, Some, map, slice_get, length, sym}
use Rattle.kb_resolve.specs.Enablements.{enablement_in}
use Rattle.kb_lints.specs.CutOff.{IsLonger}
use Rattle.kb_lints.proofs.TakingLemmas.{cut_off_by}
use Rattle.kb_lints.proofs.chords.taken_by.Goals as goal

pub returns-in-Some-rule_at : goal.returns-in-Some-rule_at
returns-in-Some-rule_at c = λ all.
    let in_force = map (λ r. r.value) c.args.rules.now in
    let rule = c.in-Some.rule.now in
    let lower = c.in-Some-rule_at.lower.now in
    let noted : (place : ℕ) × (slice_get c.args.taking.now.positions.items place ≡ Some c.in-Some-2.by) = search rules in
    let at : slice_get in_force c.args.position ≡ Some rule = search rules in
    let lower_at : slice_get in_force c.in-Some-2.by ≡ Some lower = search rules in
    let some : 0 < length lower.chord = search rules in
    let longer : IsLonger lower.chord rule = search rules in
    cut_off_by (enablement_in c.args.enablements.now) in_force c.args.taking.now.positions.items c.args.position
    c.in-Some-2.by noted.0 rule lower all noted.1 at lower_at some longer
