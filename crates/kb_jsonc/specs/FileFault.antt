-- The kinds of what is wrong with a JSON value.
use Rattle.kb_base.specs.declared.fault.FaultKind.{FaultKind}
use Rattle.kb_base.specs.declared.fault.FaultKind.TheVariants as kind
use Rattle.kb_jsonc.specs.declared.file_fault.FileFault.{FileFault}
use Rattle.kb_jsonc.specs.declared.file_fault.FileFault.TheVariants.{MissingMember, WrongShape}

abbrev pub kind_of : FileFault → FaultKind
kind_of MissingMember = kind.MissingMember
kind_of WrongShape = kind.WrongShape
