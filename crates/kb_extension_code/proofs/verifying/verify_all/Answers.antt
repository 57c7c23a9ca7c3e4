use Rattle.std.proofs.Common.{rules, ◌≡◌, ◌∷◌, sym, subst}
use Rattle.std.specs.Vec.Iter.{into_iter_items}
use Rattle.kb_extension_code.proofs.VerifiedLemmas.{handlers_more, hands_on, verified_more}
use Rattle.kb_extension_code.specs.Verified.{IsVerified}
use Rattle.kb_extension_code.proofs.verifying.verify_all.Goals as goal
use Rattle.kb_verify.specs.Accepted.{AreCallees, IsAccepted}

pub loop-handler-preserved : goal.loop-handler-preserved
loop-handler-preserved c =
    let commands = c.args.callable.now in
    let v = c.in-Ok.one in
    let vs = c.loop-handler.verified in
    let left = into_iter_items c.loop-handler.handler-iterator in
    let rest = into_iter_items c.next.new.self in
    let is : left ≡ v.handler ∷ rest = search rules in
    let accepted : IsAccepted commands v.handler =
    subst (IsAccepted commands) (sym c.in-Ok.ensures.handler) c.in-Ok.ensures.accepts in
    let callees : AreCallees commands v.handler v.callees =
    subst (λ h. AreCallees commands h v.callees) (sym c.in-Ok.ensures.handler) c.in-Ok.ensures.callees in
    let own : IsVerified commands v = record { accepted = accepted; callees = callees } in
    let pushed = c.in_ok-verified-in-Ok.ensures in (
      handlers_more commands vs c.in_ok-verified-in-Ok.verified v left rest c.args.handlers c.loop-handler.invariant.0 is pushed,
      verified_more commands vs c.in_ok-verified-in-Ok.verified v c.loop-handler.invariant.1 own pushed,
      hands_on commands v.handler left rest c.args.handlers c.loop-handler.invariant.2 is accepted,
    )
