use Rattle.kb_assembly_report.proofs.RaisingLemmas.{depth_found}
use Rattle.kb_assembly_report.proofs.choosing.smallest_depth.Goals as goal

pub returns-in_ok-depth-in-Some : goal.returns-in_ok-depth-in-Some
returns-in_ok-depth-in-Some c =
    let held = rw c.in-Some.is at c.in_ok-handler.ensures in
    depth_found c.args.callable.now c.args.draft.now _ _ _ held.0 c.in_ok-depth-in-Some.ensures
