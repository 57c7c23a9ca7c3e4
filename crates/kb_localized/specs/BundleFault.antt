-- The kinds of the faults of bundles.
use Rattle.kb_base.specs.declared.fault.FaultKind.{FaultKind}
use Rattle.kb_base.specs.declared.fault.FaultKind.TheVariants as kind
use Rattle.kb_jsonc.specs.Fault as jsonc
use Rattle.kb_localized.specs.declared.bundle_fault.BundleFault.{BundleFault}
use Rattle.kb_localized.specs.declared.bundle_fault.BundleFault.TheVariants.{TooLarge, Text, WrongShape}

abbrev pub kind_of : BundleFault → FaultKind
kind_of TooLarge = kind.TooLarge
kind_of (Text fault) = jsonc.kind_of fault
kind_of WrongShape = kind.WrongShape
