use Rattle.std.proofs.Common.{◌≡◌, ◌<◌, ◌-◌, length, refl, arith, ◌∙◌, slice_get, Some}
use Rattle.std.proofs.lemmas.Option.{slice_get_read}
use Rattle.kb_context.specs.Scopes.{context}
use Rattle.kb_when.proofs.FlatLemmas.{jumps_at, lower, stops}
use Rattle.kb_when.proofs.flat.run_by.Goals as goal

pub loop-place-preserved : goal.loop-place-preserved
loop-place-preserved c =
    let lt : c.loop-place.place - 2 < length c.args.jumps.now =
    omega (arith, c.loop-place.invariant.inside) in
    let is : slice_get c.args.jumps.now (c.loop-place.place - 2) ≡ Some c.index-jumps-place.result =
    slice_get_read c.args.jumps.now (length c.args.jumps.now) (c.loop-place.place - 2)
    c.index-jumps-place.result refl lt c.index-jumps-place.is in
    record {
      inside = rw c.in_ok-place.ensures.value (omega (
        arith,
        c.loop-place.invariant.inside,
        lower c.args.jumps.now (context c.args.scopes.now.seen) c.loop-place.place (c.loop-place.place - 2)
            c.index-jumps-place.result c.requires.back (omega arith) is,
      ));
      same = rw c.in_ok-place.ensures.value (jumps_at c.args.jumps.now _ c.loop-place.place
          (c.loop-place.place - 2) c.index-jumps-place.result c.requires.back (omega arith) is lt
          ∙ c.loop-place.invariant.same);
    }

pub returns-clause-value : goal.returns-clause-value
returns-clause-value c =
    stops c.args.jumps.now _ c.loop-place.place (omega arith) ∙ c.loop-place.invariant.same
