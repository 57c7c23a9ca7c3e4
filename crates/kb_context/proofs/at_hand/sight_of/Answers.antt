use Rattle.std.proofs.Common.{rules, ◌≡◌, false, sym, ◌∙◌}
use Rattle.kb_context.specs.Scopes.{context}
use Rattle.kb_context.proofs.SightLemmas.{not_seen, seen_at}
use Rattle.kb_context.proofs.at_hand.sight_of.Goals as goal

pub returns-then-not-may_have : goal.returns-then-not-may_have
returns-then-not-may_have c = λ key any at.
    let none : c.may_have.result ≡ false = search rules in
    not_seen c.args.tree.now c.args.flat.now key c.requires (c.may_have.ensures none key at)

pub returns-in-Some : goal.returns-in-Some
returns-in-Some c =
    c.of-sight.ensures.tells (context c.args.tree.now) c.args.hash
    (seen_at c.args.tree.now c.args.flat.now c.in-Some.key.now c.in-Some.at.now c.requires c.in-Some.ensures
    ∙ sym c.value_in_seat.ensures.value)
