use Rattle.std.proofs.Common.{◌∙◌, ap, ◌++◌}
use Rattle.kb_handler_report.specs.Visits.{visits_in}
use Rattle.kb_verify.specs.Route.{route_of}
use Rattle.kb_handler_report.proofs.path.visits_of.Goals as goal

pub returns : goal.returns
returns c cost is =
    let added = c.in_ok-cost.ensures cost is in (
      added.0 ∙ ap (λ vs. vs ++ visits_in c.args.callable.now c.args.handler.now 1 0 (route_of c.args.path.now) cost is) c.new-visits.ensures.items,
      added.1,
    )
