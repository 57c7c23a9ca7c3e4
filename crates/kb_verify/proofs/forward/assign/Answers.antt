use Rattle.std.proofs.Common.{◌≡◌, ◌-◌, ◌+◌, rules, arith, length}
use Rattle.kb_verify.proofs.Passes.{blank_marked}
use Rattle.kb_verify.proofs.forward.assign.Goals as goal

pub loop-place-init : goal.loop-place-init
loop-place-init c =
    let h = c.args.handler.now in
    let same : length c.instrs-size.result.now ≡ length h.code = search rules in
    let n : length h.code ≡ length c.instrs-size.result.now - 1 + 1 = omega (arith, c.requires, same) in
    let m = blank_marked c.args.callable.now h (length c.instrs-size.result.now - 1) c.in_ok-marks.marks.items c.in_ok-marks.ensures n in
    record { size = m.size; marked = m }
