use Rattle.std.proofs.Common.{◌≡◌, find, drop}
use Rattle.kb_handler_table.specs.Live.{calls_one}
use Rattle.kb_handler_table.proofs.group.user_in.Given as goal

-- the search in the remaining handlers gives the result
abbrev pub invariant-loop-place : goal.invariant-loop-place
invariant-loop-place l =
    find (calls_one l.own.codes.handlers) (drop l.place l.handlers)
    ≡ find (calls_one l.own.codes.handlers) l.handlers
