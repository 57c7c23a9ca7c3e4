use Rattle.std.proofs.Common.{IfSome, All, map, subst, sym}
use Rattle.std.proofs.lemmas.List.Elements.{All-push}
use Rattle.kb_resolve.specs.Enablements.{enablement_in}
use Rattle.kb_lints.specs.CutOff.{IsCutOff}
use Rattle.kb_lints.specs.declared.hidden.Hidden.{Hidden}
use Rattle.kb_lints.proofs.chords.cut_off.Goals.{in-Some+in_ok-push, in_default}
use Rattle.kb_lints.proofs.chords.cut_off.Goals as goal

pub loop-position-preserved : goal.loop-position-preserved
loop-position-preserved c =
    let in_force = map (λ r. r.value) c.args.rules.now in
    let enablement = enablement_in c.args.enablements.now in
    let P : Hidden → Type 0 = λ o. IsCutOff enablement in_force o.position o.by in
    let kept = c.loop-position.invariant in
    let taken = c.in_ok-by.ensures kept.taking in
    record {
      found = elim c.match-branch-4.branch [
        | in-Some+in_ok-push w ↦
            let one = subst (λ o. IfSome o (IsCutOff enablement in_force c.loop-position.position)) w.in-Some.is taken in
            subst (λ f. All P f.items) (sym w.found-is) (subst (All P) (sym w.in_ok-push.ensures.items)
            (All-push P c.loop-position.found.items (record { position = c.loop-position.position; by = w.in-Some.by }) kept.found one))
        | in_default w ↦ subst (λ f. All P f.items) (sym w.found-is) kept.found
      ];
      taking = kept.taking;
    }
