use Rattle.std.proofs.Common.{◌≡◌, ◌∙◌, ◌+◌, ap, sym, subst, Some, length, map, arith, rules}
use Rattle.std.proofs.lemmas.Option.{slice_get_within}
use Rattle.kb_code.specs.declared.instr.Instr.TheVariants.{Call}
use Rattle.kb_code.specs.Reachable.{CalleesBelow}
use Rattle.kb_verify.specs.Accepted.{AreCallees, AreDeclared}
use Rattle.kb_verify.proofs.Calls.{called_too, passed_too, declared_too, shallow_called, shallow_passed}
use Rattle.kb_verify.proofs.Listed.{callees_are}
use Rattle.kb_verify.proofs.callees.shallow_callees.Goals as goal
use Rattle.kb_verify.proofs.callees.shallow_callees.Goals.{in-Some+else-depth+in_ok-share+in_ok-push}
use Rattle.kb_verify.proofs.callees.shallow_callees.Goals.{in_default}

pub loop-place-init : goal.loop-place-init
loop-place-init c = record {
  called = subst (λ xs. CalleesBelow c.args.handler.now 0 (map (λ x. x.index) xs)) (sym c.new-callees.ensures.items) CalleesBelow.none;
  declared = subst (AreDeclared c.args.callable.now c.args.handler.now) (sym c.new-callees.ensures.items) tt;
  shallow = λ q m d lt. absurd (omega (arith, lt));
}

pub loop-place-preserved : goal.loop-place-preserved
loop-place-preserved c =
    let commands = c.args.callable.now in let h = c.args.handler.now in let p = c.loop-place.place in
    let before = c.loop-place.callees.items in
    let i = c.loop-place.invariant in
    elim c.match-callee_at.branch [
      | in-Some+else-depth+in_ok-share+in_ok-push w ↦
          let more = ap (λ v. v.items) w.callees-is ∙ w.in_ok-push.ensures.items in
          let callee : w.as_signature.result.now.depth ≡ w.in-Some.signature.now.depth = ap (λ d. d.depth) w.as_signature.ensures in
          let own : w.signature.result.now.depth ≡ h.signature.depth = ap (λ d. d.depth) w.signature.ensures.signature in
          record {
            called = called_too commands h p _ before _ _ more i.called w.in-Some.ensures;
            declared = declared_too commands h before _ _ more i.declared (w.in-Some.ensures.declares ∙ ap Some (sym w.in_ok-share.ensures));
            shallow = shallow_called commands h p _ _ i.shallow w.in-Some.ensures (omega (arith, w.if-depth.false, w.depth.ensures.depth, callee, w.depth-in-Some.ensures.depth, own));
          }
      | in_default w ↦ record {
        called = subst (λ v. CalleesBelow h (p + 1) (map (λ x. x.index) v)) (sym (ap (λ v. v.items) w.callees-is)) (passed_too h p _ i.called w.in_default.ensures);
        declared = subst (AreDeclared commands h) (sym (ap (λ v. v.items) w.callees-is)) i.declared;
        shallow = shallow_passed commands h p i.shallow w.in_default.ensures;
      }
    ]

pub returns : goal.returns
returns c =
    let h = c.args.handler.now in
    let i = c.loop-place.invariant in
    let callees = c.loop-place.callees.items in
    let size : length c.instrs-place-end.result.now ≡ length h.code = search rules in
    let n : c.loop-place.place ≡ length h.code = omega (arith, c.loop-place-test.false, c.loop-place.auto.place-end, size) in
    let called : CalleesBelow h (length h.code) (map (λ x. x.index) callees) = subst (λ q. CalleesBelow h q (map (λ x. x.index) callees)) n i.called in (
      subst (AreCallees c.args.callable.now h) (sym c.from_vec.ensures) (record { called = callees_are h _ called; declared = i.declared }),
      λ q m d is. i.shallow q m d (omega (arith, n, slice_get_within h.code q (Call m) is.calls.at)) is,
    )
