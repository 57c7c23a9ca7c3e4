use Rattle.std.proofs.Common.{rules, ◌≡◌, ◌<◌, ◌-◌, ◌^◌, Some, sym}
use Rattle.kb_context.proofs.SeatLemmas.{flat_insert, flat_remove}
use Rattle.kb_context.proofs.SightLemmas.{at_hand_next}
use Rattle.kb_context.proofs.at_hand.AtHand.follow.Goals as goal

pub tell_of-requires : goal.tell_of-requires
tell_of-requires c =
    let fresh : c.args.made_at ≡ Some c.args.revision = search rules in
    (c.requires.but fresh).tells

pub tell_of-requires-in-None : goal.tell_of-requires-in-None
tell_of-requires-in-None c =
    let fresh : c.args.made_at ≡ Some c.args.revision = search rules in
    (c.requires.but fresh).tells

pub returns-in-Ok : goal.returns-in-Ok
returns-in-Ok c =
    let fresh : c.args.made_at ≡ Some c.args.revision = search rules in
    let below : c.args.revision < 2 ^ 64 - 2 = search rules in
    at_hand_next c.args.tree.now _ c.args.revision
    (record {
      flat = flat_insert c.args.tree.now c.args.self.now.flat c.set.new.self c.args.key.now c.in-Some.at
          (c.requires.but fresh).flat (sym c.in-Some.ensures) c.in-Ok.ensures.ok;
      tells = c.tell_of.ensures;
    }) below

pub returns-in-None : goal.returns-in-None
returns-in-None c =
    let fresh : c.args.made_at ≡ Some c.args.revision = search rules in
    let below : c.args.revision < 2 ^ 64 - 2 = search rules in
    at_hand_next c.args.tree.now _ c.args.revision
    (record {
      flat = flat_remove c.args.tree.now c.args.self.now.flat c.remove.new.self c.args.key.now
          (c.requires.but fresh).flat (sym c.in-None.ensures) c.remove.ensures;
      tells = c.tell_of-in-None.ensures;
    }) below
