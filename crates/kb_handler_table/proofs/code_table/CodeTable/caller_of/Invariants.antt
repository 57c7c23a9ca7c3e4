use Rattle.std.proofs.Common.{◌≡◌, drop}
use Rattle.kb_handler_table.specs.Live.{caller_of}
use Rattle.kb_handler_table.proofs.code_table.CodeTable.caller_of.Given as goal

-- the search in the remaining groups gives the result
abbrev pub invariant-loop-group : goal.invariant-loop-group
invariant-loop-group l = caller_of l.native (drop l.group-index l.self) ≡ caller_of l.native l.self
