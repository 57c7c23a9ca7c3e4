use Rattle.std.proofs.Common.{◌≡◌, find, drop}
use Rattle.kb_handler_table.specs.Live.{calls_one, checked_handlers}
use Rattle.kb_handler_table.proofs.code_table.user_among.Given as goal

-- the search in the remaining groups gives the result
abbrev pub invariant-loop-group : goal.invariant-loop-group
invariant-loop-group l =
    find (calls_one l.own.codes.handlers) (checked_handlers (drop l.group-index l.groups))
    ≡ find (calls_one l.own.codes.handlers) (checked_handlers l.groups)
