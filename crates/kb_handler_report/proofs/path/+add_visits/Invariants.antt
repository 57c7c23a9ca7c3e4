use Rattle.std.proofs.Common.{◌-◌, length}
use Rattle.kb_verify.specs.Route.{route_of}
use Rattle.kb_handler_report.proofs.WalkLemmas.{IsUnderWay}
use Rattle.kb_handler_report.proofs.path.+add_visits.Given as goal

abbrev pub decreases-add_visits : goal.decreases-add_visits
decreases-add_visits l = length l.handler.now.code - l.start

abbrev pub invariant-walk : goal.invariant-walk
invariant-walk l = IsUnderWay l.callable l.handler l.times l.start (route_of l.fn.path) l.fn.visits.items l.place (route_of l.left) l.visits.items l.spent

abbrev pub decreases-walk : goal.decreases-walk
decreases-walk l = length l.handler.code - l.place
