use Rattle.std.proofs.Common.{◌≡◌, ◌∷◌, ◌+◌, ◌≤◌, length, ap, sym, subst, arith}
use Rattle.kb_handler_table.specs.Codes.{checked}
use Rattle.kb_registry.specs.Live.{Live}
use Rattle.kb_extension_code.proofs.Numbers.{AreBelow, below_more, none_there}
use Rattle.std.specs.Vec.Iter.{into_iter_items}
use Rattle.kb_extension_code.proofs.CheckedLemmas.{one_joins, one_stops}
use Rattle.kb_extension_code.proofs.checked.join_all.Goals as goal

pub returns-in-Err : goal.returns-in-Err
returns-in-Err g c =
    one_stops c.args.extensions.now c.args.handlers c.args.registry c.loop-group.number c.in-Some.group
    (into_iter_items c.loop-group.group-iterator) (into_iter_items c.next.new.self) c.loop-group.registry
    c.in-Err.failure c.loop-group.invariant.0 c.in-Some.ensures.steps.0 c.in-Err.ensures

pub loop-group-preserved : goal.loop-group-preserved
loop-group-preserved g c =
    let left = into_iter_items c.loop-group.group-iterator in
    let rest = into_iter_items c.next.new.self in
    let few : c.loop-group.number + length left ≤ 100 = c.loop-group.invariant.1 in
    let admits = c.in-Ok.ensures in
    let is : length left ≡ length (c.in-Some.group ∷ rest) = ap length c.in-Some.ensures.steps.0 in (
      one_joins c.args.extensions.now c.args.handlers c.args.registry c.loop-group.number c.in-Some.group left rest
          c.loop-group.registry c.in-Ok.joined c.loop-group.invariant.0 c.in-Some.ensures.steps.0 c.in-Ok.ensures,
      omega (arith, few, is),
      subst (λ (live : Live). AreBelow (c.loop-group.number + 1) live.code) (sym admits.then)
          (below_more c.loop-group.number (checked admits.verified) c.loop-group.registry.code c.loop-group.invariant.2),
    )

pub join-requires : goal.join-requires
join-requires g c = none_there c.loop-group.number c.loop-group.registry.code c.loop-group.invariant.2
