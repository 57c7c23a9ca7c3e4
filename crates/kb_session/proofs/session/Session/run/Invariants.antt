use Rattle.std.proofs.Common.{◌≡◌, false, length, map}
use Rattle.kb_session.specs.Session.{is_left}
use Rattle.kb_session.specs.State.{happens, next}
use Rattle.kb_session.proofs.session.Session.run.Given as goal
use Rattle.kb_stream.proofs.FoldLemmas.{RunsUpTo}

abbrev pub invariant-loop-event : goal.invariant-loop-event
invariant-loop-event g l =
    RunsUpTo next l.fn.self (map happens l.fn.events.items) l.self (map happens l.rest.items)
    × (l.fn.self.state.stopped ≡ false)
    × (is_left (map happens l.fn.events.items) l.fn.self.state ≡ is_left (map happens l.rest.items) l.self.state)

abbrev pub decreases-loop-event : goal.decreases-loop-event
decreases-loop-event g l = length l.rest.items
