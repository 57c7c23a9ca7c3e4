use Rattle.std.proofs.Common.{sym, subst}
use Rattle.kb_assembly_report.specs.Choice.{IsBudgetAt}
use Rattle.kb_assembly_report.proofs.RaisingLemmas.{budget_found}
use Rattle.kb_assembly_report.proofs.choosing.budget_at.Goals as goal

pub returns-in-Ok-try_from : goal.returns-in-Ok-try_from
returns-in-Ok-try_from c =
    let held = rw c.in-Some.is at c.in_ok-handler.ensures in
    let found = budget_found _ _ _ _ _ held.0 c.in-Ok.ensures.accepts c.in-Ok.ensures.dearest in
    subst (IsBudgetAt c.args.callable.now c.args.draft.now c.args.depth) (sym c.in-Ok-try_from.ensures.1) found
