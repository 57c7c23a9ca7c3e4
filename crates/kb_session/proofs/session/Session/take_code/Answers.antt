use Rattle.std.proofs.Common.{◌∙◌, ap, sym}
use Rattle.kb_code.specs.Face.{same_face}
use Rattle.kb_handler_table.specs.Live.{handlers_of}
use Rattle.kb_extension_code.specs.Dependencies.{Placed, extension_named, placed_by}
use Rattle.kb_session.specs.Session.{Seen}
use Rattle.kb_session.specs.State.{named_in}
use Rattle.kb_session.proofs.session.Session.take_code.Goals as goal

pub exchange_code-requires : goal.exchange_code-requires
exchange_code-requires g c =
    let id = c.args.id.now in
    let p : Placed = placed_by c.in-Some.named in
    ap (λ (s : Seen). same_face (handlers_of p.extension.number s.state.live.code) c.args.codes.handlers)
    c.self.view_is
    ∙ c.requires p (ap (λ (s : Seen). named_in id s.state) (sym c.self.view_is)
    ∙ ap (extension_named id) (sym c.extensions-2.ensures) ∙ sym c.in-Some.ensures)
