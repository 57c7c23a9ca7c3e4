use Rattle.std.proofs.Common.{◌≡◌, ◌<◌, ◌-◌, ◌∙◌, sym, ap, length, get_or, arith, rules}
use Rattle.std.proofs.lemmas.List.{length-set}
use Rattle.kb_code.specs.declared.instr.Instr.TheVariants.{Return}
use Rattle.kb_verify.specs.Costs.{dearest}
use Rattle.kb_verify.proofs.Dearest.{one_less, past_end}
use Rattle.kb_verify.proofs.Edges.{at_place}
use Rattle.kb_verify.proofs.backward.dearest_costs.Goals as goal

pub loop-place-init : goal.loop-place-init
loop-place-init c =
    let h = c.args.handler.now in
    let size : length c.instrs-size.result.now ≡ length h.code = search rules in
    let l = c.in_ok-costs.ensures.len in let o = c.in_ok-costs.costs.ok in
    record {
      size = omega (arith, l, o, size);
      each = λ q le. past_end c.args.callable.now h c.in_ok-costs.costs.items q (omega (arith, le, size));
    }

pub loop-place-preserved : goal.loop-place-preserved
loop-place-preserved c =
    let commands = c.args.callable.now in let h = c.args.handler.now in
    let costs = c.loop-place.costs.items in
    let p = c.loop-place.place - 1 in
    let x = get_or c.instrs.result.now p Return in
    let size : length c.instrs-size.result.now ≡ length h.code = search rules in
    let same : c.instrs.result.now ≡ h.code = search rules in
    let most = c.loop-place.auto.place in let test = c.loop-place-test.true in
    let lt : p < length h.code = omega (arith, most, test, size) in
    let lt' : p < length costs = omega (arith, lt, c.loop-place.invariant.size) in
    let at = at_place h.code c.instrs.result.now p same lt in
    record {
      size = length-set costs p c.dearest_at.result ∙ c.loop-place.invariant.size;
      each = λ q le. one_less commands h costs p c.dearest_at.result x at lt'
          (λ e has. c.dearest_at.ensures e has ∙ ap (λ cs. dearest commands h cs p e x) c.as_slice.ensures.value)
          (λ r l. c.loop-place.invariant.each r (omega (arith, l))) q le;
    }
