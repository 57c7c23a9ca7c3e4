use Rattle.std.proofs.Common.{◌≤◌, ◌-◌, length}
use Rattle.kb_verify.proofs.Routes.{IsRouted}
use Rattle.kb_verify.proofs.route.+dearest_path.Given as goal

abbrev pub decreases-dearest_path : goal.decreases-dearest_path
decreases-dearest_path l = length l.handler.now.code - l.start

abbrev pub invariant-walk : goal.invariant-walk
invariant-walk l = record {
  later : l.start ≤ l.place;
  routed : IsRouted l.callable l.handler l.costs l.start l.place l.steps.items;
}

abbrev pub decreases-walk : goal.decreases-walk
decreases-walk l = length l.handler.code - l.place
