-- The kind of each fault of code that can't be added.
use Rattle.kb_base.specs.declared.fault.FaultKind.{FaultKind}
use Rattle.kb_base.specs.declared.fault.FaultKind.TheVariants as kind
use Rattle.kb_handler_table.specs.declared.fault.CodesFault.{CodesFault}
use Rattle.kb_handler_table.specs.declared.fault.CodesFault.TheVariants.{AlreadyExists}

abbrev pub kind_of : CodesFault → FaultKind
kind_of AlreadyExists = kind.AlreadyExists
