use Rattle.kb_session.proofs.Handling.{done_as}
use Rattle.kb_session.proofs.session.Session.take.Goals as goal

pub returns-in-Unread-clause-ok : goal.returns-in-Unread-clause-ok
returns-in-Unread-clause-ok g c =
    done_as c.args.event _ c.args.self.now c.note_unread.new.self c.in-Unread.is c.note_unread.result
    c.started_nothing-in-Unread.result c.started_nothing-in-Unread.ensures.value c.note_unread.ensures.ok
