use Rattle.std.proofs.Common.{◌≡◌, drop}
use Rattle.kb_handler_table.specs.Live.{handlers_in}
use Rattle.kb_code.specs.Handler.{handler_named}
use Rattle.kb_handler_table.proofs.code_table.CodeTable.any_linked.Given as goal

-- the search in the remaining groups gives the result
abbrev pub invariant-loop-group : goal.invariant-loop-group
invariant-loop-group l =
    handler_named l.name (handlers_in (drop l.group-index l.self)) ≡ handler_named l.name (handlers_in l.self)
