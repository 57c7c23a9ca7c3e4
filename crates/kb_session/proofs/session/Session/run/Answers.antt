use Rattle.std.proofs.Common.{◌≡◌, ◌∷◌, ap, map, rules}
use Rattle.std.proofs.lemmas.Result.{err_from_is_err_and}
use Rattle.kb_session.proofs.Runs.{runs_fail}
use Rattle.kb_session.proofs.session.Session.run.Goals as goal
use Rattle.kb_session.specs.State.{happens}

pub returns-in_err-handle-clause-err : goal.returns-in_err-handle-clause-err
returns-in_err-handle-clause-err g c =
    let p = err_from_is_err_and c.from_residual.result c.from_residual.ensures.1 in
    let left : c.loop-event.rest.items ≡ c.in-Some.event ∷ c.pop_front.new.self.items = search rules in
    rw (p.1, p.2)
    (runs_fail _ _ _ _ _ _ _ _ c.loop-event.invariant.0 (ap (map happens) left) c.loop-event.invariant.2
    c.loop-event.invariant.1 c.in_err-handle.ensures.err)
