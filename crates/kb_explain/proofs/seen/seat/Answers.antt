use Rattle.std.proofs.Common.{◌≡◌, ◌<◌, Some, arith, length, refl, sym, ◌∙◌}
use Rattle.std.proofs.lemmas.Option.{slice_get_read}
use Rattle.std.specs.Prelude.{slice_get}
use Rattle.kb_explain.proofs.SeenLemmas.{seat_further}
use Rattle.kb_explain.proofs.seen.seat.Goals as goal

pub loop-preserved : goal.loop-preserved
loop-preserved c =
    let all = c.args.all.now in
    let lookup = c.in-Some.ensures.lookup in
    let here : slice_get all c.loop.at ≡ Some c.in-Some.scope.now =
    slice_get_read all _ c.loop.at c.in-Some.scope.now refl lookup.3.0 lookup.1 in
    let inside : c.loop.counter < length all = omega arith in
    sym
    (seat_further all c.args.key.now (length all) c.loop.counter c.loop.at inside c.in-Some.scope.now here
    c.in-Some-parent.parent (sym c.contains_key.ensures ∙ c.if-contains_key.false) c.in-Some-parent.is)
    ∙ c.loop.invariant
