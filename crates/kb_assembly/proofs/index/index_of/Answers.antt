use Rattle.std.proofs.Common.{rules}
use Rattle.kb_assembly.proofs.IndexLemmas.{one_indexed}
use Rattle.kb_assembly.proofs.index.index_of.Goals as goal

pub loop-place-preserved : goal.loop-place-preserved
loop-place-preserved g c =
    one_indexed g.T.Named.named c.args.items.now c.loop-place.index c.add.new.self c.loop-place.place c.index-items-place.result
    c.name.result.now c.loop-place-test.true c.index-items-place.is c.name.ensures c.in_ok-add.ensures c.loop-place.invariant
