-- The kinds of the faults of when clauses.
use Rattle.kb_base.specs.declared.fault.FaultKind.{FaultKind}
use Rattle.kb_base.specs.declared.fault.FaultKind.TheVariants as kind
use Rattle.kb_when.specs.declared.fault.WhenFault.{WhenFault}
use Rattle.kb_when.specs.declared.fault.WhenFault.TheVariants.{BadToken, Unexpected, TooDeep, BadNumber}

abbrev pub kind_of : WhenFault → FaultKind
kind_of BadToken = kind.BadToken
kind_of Unexpected = kind.Unexpected
kind_of TooDeep = kind.ClauseTooDeep
kind_of BadNumber = kind.BadNumber
