-- The kinds of the faults of calls on scopes.
use Rattle.kb_base.specs.declared.fault.FaultKind.{FaultKind}
use Rattle.kb_base.specs.declared.fault.FaultKind.TheVariants as kind
use Rattle.kb_context.specs.declared.fault.ScopeFault.{ScopeFault}
use Rattle.kb_context.specs.declared.fault.ScopeFault.TheVariants.{UnknownScope, BadLayout, TooManyKeys}

abbrev pub kind_of : ScopeFault → FaultKind
kind_of UnknownScope = kind.UnknownScope
kind_of BadLayout = kind.BadLayout
kind_of TooManyKeys = kind.TooManyKeys
