use Rattle.std.proofs.Common.{◌≡◌, ◌∷◌, [], refl, ap, ◌∙◌, arith}
use Rattle.std.specs.Prelude.{sum_by}
use Rattle.std.proofs.lemmas.List.Sums.{sum_by-append}
use Rattle.kb_vm.specs.Meaning.{Done}
use Rattle.kb_vm.specs.State.{finish}
use Rattle.kb_vm.specs.declared.machine.Frame.{Frame}
use Rattle.kb_vm.proofs.Frames.{finish_more}
use Rattle.kb_vm.proofs.machine.leave.Goals as goal

pub returns-in-Ok : goal.returns-in-Ok
returns-in-Ok c = λ table.
    let left = λ (f : Frame). f.left in
    let sum = ap (sum_by left) c.in-Ok.ensures ∙ sum_by-append left c.resume.new.self (c.in-Ok.frame ∷ []) in (
      record { core = refl; lines = refl; spent = refl; credit = omega (arith, sum) },
      λ w. ap (λ fs. finish table fs (Done w)) c.in-Ok.ensures
          ∙ finish_more table c.resume.new.self c.in-Ok.frame (Done w),
    )

pub returns-in-Err : goal.returns-in-Err
returns-in-Err c = λ table.
    let left : c.in-Err.frame.left ≡ c.args.machine.frame.left = ap (λ (f : Frame). f.left) c.in-Err.ensures.0 in
    let sum = ap (sum_by (λ (f : Frame). f.left)) c.in-Err.ensures.1.1 in (
      record { core = refl; lines = refl; spent = refl; credit = omega (arith, left, sum) },
      λ w. ap (λ fs. finish table fs (Done w)) c.in-Err.ensures.1.0,
    )
