use Rattle.std.proofs.Common.{◌≡◌, ◌∷◌, ◌∙◌, ◌+◌, ◌≤◌, None, length, ap, sym, arith}
use Rattle.std.specs.Vec.Iter.{into_iter_items}
use Rattle.kb_handler_table.specs.Codes.{raw}
use Rattle.kb_extension_code.proofs.Numbers.{below_next}
use Rattle.kb_extension_code.proofs.RawLemmas.{one_live}
use Rattle.kb_extension_code.proofs.raw.register_codes.Goals as goal
use Rattle.kb_extension_code.specs.Raw.{codes_held}
use Rattle.kb_registry.specs.CodeFault.{code_fault}
use Rattle.kb_registry.specs.Live.{with_code}

pub loop-group-preserved : goal.loop-group-preserved
loop-group-preserved g c =
    let number = c.loop-group.number in
    let live = c.loop-group.registry in
    let left = into_iter_items c.loop-group.group-iterator in
    let rest = into_iter_items c.next.new.self in
    let group = c.in-Some.group in
    let few : number + length left ≤ 100 = c.loop-group.invariant.1 in
    let is : length left ≡ length (group ∷ rest) = ap length c.in-Some.ensures.steps.0 in
    let free : code_fault (raw group) live ≡ None =
    ap (λ codes. code_fault codes live) (sym c.raw.ensures) ∙ c.in-Ok.ensures.allowed in
    let next : c.register_code.new.self ≡ with_code number (raw group) live =
    c.in-Ok.ensures.ok ∙ ap (λ codes. with_code number codes live) c.raw.ensures in (
      ap (codes_held (number + 1) rest) next ∙ sym (one_live number group rest live free)
          ∙ sym (ap (λ groups. codes_held number groups live) c.in-Some.ensures.steps.0) ∙ c.loop-group.invariant.0,
      omega (arith, few, is),
      below_next number (raw group) live c.register_code.new.self c.loop-group.invariant.2 next,
    )
