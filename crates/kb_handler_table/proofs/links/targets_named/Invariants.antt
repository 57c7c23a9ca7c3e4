use Rattle.std.proofs.Common.{◌≡◌, map, take}
use Rattle.kb_core.specs.Native.{named}
use Rattle.kb_code.specs.Target.{natives_in}
use Rattle.kb_handler_table.proofs.links.targets_named.Given as goal

abbrev pub invariant-loop-name : goal.invariant-loop-name
invariant-loop-name l = natives_in l.targets.items ≡ map named (take l.name-index l.names)
