use Rattle.kb_assembly_report.specs.Choice.{IsLow, room}
use Rattle.kb_assembly_report.proofs.choosing.raised.Given as goal

-- the declarations are no larger than in a choice that will do
abbrev pub invariant-loop-declared : goal.invariant-loop-declared
invariant-loop-declared l = IsLow l.drafts l.declared

abbrev pub decreases-loop-declared : goal.decreases-loop-declared
decreases-loop-declared l = room l.declared
