use Rattle.std.proofs.Common.{◌≡◌, length}
use Rattle.kb_verify.specs.Provider.{with_handlers}
use Rattle.kb_assembly_report.specs.Choice.{commands_of, handlers_with}
use Rattle.kb_assembly_report.proofs.choosing.commands_with.Given as goal

-- the commands so far, and the handlers that are left
abbrev pub invariant-loop-left : goal.invariant-loop-left
invariant-loop-left l =
    with_handlers (handlers_with l.left l.others) l.callable ≡ commands_of (handlers_with l.drafts l.declared)

abbrev pub decreases-loop-left : goal.decreases-loop-left
decreases-loop-left l = length l.left
