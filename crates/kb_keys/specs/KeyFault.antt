-- The kinds of the faults of key texts and chord texts.
use Rattle.kb_base.specs.declared.fault.FaultKind.{FaultKind}
use Rattle.kb_base.specs.declared.fault.FaultKind.TheVariants as kind
use Rattle.kb_keys.specs.declared.key_fault.KeyFault.{KeyFault}
use Rattle.kb_keys.specs.declared.key_fault.KeyFault.TheVariants.{UnknownKey, TooManySteps, EmptyKey}

abbrev pub kind_of : KeyFault → FaultKind
kind_of UnknownKey = kind.UnknownKey
kind_of TooManySteps = kind.TooManySteps
kind_of EmptyKey = kind.EmptyKey
