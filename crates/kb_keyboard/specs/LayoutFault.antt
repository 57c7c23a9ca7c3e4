-- The kinds of the faults of layouts.
use Rattle.kb_base.specs.declared.fault.FaultKind.{FaultKind}
use Rattle.kb_base.specs.declared.fault.FaultKind.TheVariants as kind
use Rattle.kb_keyboard.specs.declared.layout_fault.LayoutFault.{LayoutFault}
use Rattle.kb_keyboard.specs.declared.layout_fault.LayoutFault.TheVariants.{TooLarge, CodeTwice}

abbrev pub kind_of : LayoutFault → FaultKind
kind_of TooLarge = kind.TooLarge
kind_of CodeTwice = kind.AlreadyExists
