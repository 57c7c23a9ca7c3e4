use Rattle.std.proofs.Common.{◌≡◌, ◌++◌, take, drop}
use Rattle.kb_handler_table.specs.Live.{handlers_in, has_taken}
use Rattle.kb_handler_table.proofs.code_table.CodeTable.failure_of.Given as goal

-- the check of the remaining handlers gives the result
abbrev pub invariant-loop-place : goal.invariant-loop-place
invariant-loop-place l =
    has_taken (handlers_in l.self ++ take l.place l.handlers) (drop l.place l.handlers)
    ≡ has_taken (handlers_in l.self) l.handlers
