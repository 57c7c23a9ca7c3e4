use Rattle.std.proofs.Common.{◌≡◌, cond, sym, ◌∙◌, ap}
use Rattle.kb_context.specs.Scopes.{context}
use Rattle.kb_when.specs.Flat.{atom_holds}
use Rattle.kb_when.proofs.flat.next_by.Goals as goal

pub returns-then-holds-clause-value : goal.returns-then-holds-clause-value
returns-then-holds-clause-value c =
    let keys = context c.args.scopes.now.seen in
    let seen : c.in-Some.holds ≡ atom_holds keys c.args.jump.now =
    c.in-Some.ensures c.args.jump.now.atom.value keys c.args.jump.now.numbers c.args.jump.now.key
    c.args.jump.now.text c.requires in
    ap (λ b. cond b c.args.jump.now.yes c.args.jump.now.no) (sym c.if-holds.true ∙ seen)

pub returns-else-holds-clause-value : goal.returns-else-holds-clause-value
returns-else-holds-clause-value c =
    let keys = context c.args.scopes.now.seen in
    let seen : c.in-Some.holds ≡ atom_holds keys c.args.jump.now =
    c.in-Some.ensures c.args.jump.now.atom.value keys c.args.jump.now.numbers c.args.jump.now.key
    c.args.jump.now.text c.requires in
    ap (λ b. cond b c.args.jump.now.yes c.args.jump.now.no) (sym c.if-holds.false ∙ seen)
