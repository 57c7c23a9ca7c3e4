use Rattle.std.proofs.Common.{◌+◌, List, subst, sym, arith}
use Rattle.kb_context.specs.Scopes.{context}
use Rattle.kb_context.specs.declared.sight.Sight.{Sight}
use Rattle.kb_context.proofs.SightLemmas.{TellsBelow, told_none, told_next, told_all}
use Rattle.kb_context.proofs.at_hand.tell.Goals as goal

pub loop-hash-init : goal.loop-hash-init
loop-hash-init c = told_none (context c.args.tree.now) c.args.sights.now.items c.requires.room

pub put_sight-requires : goal.put_sight-requires
put_sight-requires c = omega (arith, c.loop-hash-test.true, c.loop-hash.invariant.room)

pub loop-hash-preserved : goal.loop-hash-preserved
loop-hash-preserved c =
    subst (λ (ss : List Sight). TellsBelow (context c.args.tree.now) ss (c.loop-hash.hash + 1)) (sym c.put_sight.ensures)
    (told_next (context c.args.tree.now) c.loop-hash.sights.items c.loop-hash.hash c.sight_of-sight.result
    c.loop-hash-test.true c.loop-hash.invariant c.sight_of-sight.ensures)

pub returns : goal.returns
returns c =
    told_all (context c.args.tree.now) c.loop-hash.sights.items c.loop-hash.hash c.loop-hash-test.false
    c.loop-hash.invariant
