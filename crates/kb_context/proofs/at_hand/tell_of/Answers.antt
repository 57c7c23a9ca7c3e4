use Rattle.std.proofs.Common.{List, subst, sym, arith}
use Rattle.kb_context.specs.Scopes.{context}
use Rattle.kb_context.specs.Sights.{TellsSeen}
use Rattle.kb_context.specs.declared.sight.Sight.{Sight}
use Rattle.kb_context.proofs.SightLemmas.{told_put}
use Rattle.kb_context.proofs.at_hand.tell_of.Goals as goal

pub put_sight-requires : goal.put_sight-requires
put_sight-requires c = omega (arith, c.of-hash.ensures.small, c.requires.room)

pub returns : goal.returns
returns c =
    subst (λ (ss : List Sight). TellsSeen (context c.args.tree.now) ss) (sym c.put_sight.ensures)
    (told_put (context c.args.tree.now) c.args.sights.now.items c.args.key.now c.of-hash.result.0 c.of-hash.result.1
    c.of-hash.ensures.hash c.requires
    (c.of-hash.ensures.tells (context c.args.tree.now) c.of-hash.result.0 (sym c.get.ensures.value)))
