use Rattle.std.proofs.Common.{◌≡◌, find, drop}
use Rattle.kb_handler_table.specs.Live.{calls_native}
use Rattle.kb_handler_table.proofs.group.caller_in.Given as goal

-- the search in the remaining handlers gives the result
abbrev pub invariant-loop-place : goal.invariant-loop-place
invariant-loop-place l =
    find (calls_native l.native) (drop l.place l.handlers) ≡ find (calls_native l.native) l.handlers
