-- The kind of each fault of a registry.
use Rattle.kb_base.specs.declared.fault.FaultKind.{FaultKind}
use Rattle.kb_base.specs.declared.fault.FaultKind.TheVariants as kind
use Rattle.kb_registry.specs.declared.fault.RegistryFault.{RegistryFault}
use Rattle.kb_registry.specs.declared.fault.RegistryFault.TheVariants.{AlreadyExists, Exhausted, StaleTicket}
use Rattle.kb_registry.specs.declared.fault.RegistryFault.TheVariants.{InUse, CalleeNotLive, SignatureChanged}

abbrev pub kind_of : RegistryFault → FaultKind
kind_of AlreadyExists = kind.AlreadyExists
kind_of Exhausted = kind.Exhausted
kind_of StaleTicket = kind.StaleTicket
kind_of InUse = kind.InUse
kind_of CalleeNotLive = kind.CalleeNotLive
kind_of SignatureChanged = kind.SignatureChanged
