use Rattle.std.proofs.Common.{take}
use Rattle.std.specs.List.{AllZip}
use Rattle.kb_handler_table.specs.Links.{AreLinks}
use Rattle.kb_handler_table.proofs.group.links_of.Given as goal

abbrev pub invariant-loop-handler : goal.invariant-loop-handler
invariant-loop-handler l = AllZip AreLinks l.links.items (take l.handler-index l.handlers)
