use Rattle.std.proofs.Common.{List, subst, sym, arith}
use Rattle.kb_base.proofs.FingerprintLemmas.{hash_small}
use Rattle.kb_context.specs.Scopes.{context}
use Rattle.kb_context.specs.Sights.{TellsSeen}
use Rattle.kb_context.specs.declared.sight.Sight.{Sight}
use Rattle.kb_context.proofs.SightLemmas.{told_put}
use Rattle.kb_context.proofs.at_hand.AtHand.put.Goals as goal

pub put_sight-requires : goal.put_sight-requires
put_sight-requires c = omega (arith, c.requires.hash, hash_small c.args.key.now, c.requires.others.room)

pub returns : goal.returns
returns c = record {
  flat = c.requires.flat;
  tells = subst (λ (ss : List Sight). TellsSeen (context c.args.tree.now) ss) (sym c.put_sight.ensures)
      (told_put (context c.args.tree.now) c.args.self.now.sights.items c.args.key.now c.args.hash c.args.sight
      c.requires.hash c.requires.others c.requires.own);
}
