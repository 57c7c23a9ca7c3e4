use Rattle.std.proofs.Common.{take}
use Rattle.kb_handler_table.specs.Group.{FindsFirst}
use Rattle.kb_handler_table.proofs.code_table.names_among.Given as goal

abbrev pub invariant-loop-place : goal.invariant-loop-place
invariant-loop-place l = FindsFirst l.names l.handlers (take l.place l.handlers)
