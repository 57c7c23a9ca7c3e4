-- The kinds of the faults of scripts.
use Rattle.kb_base.specs.declared.fault.FaultKind.{FaultKind}
use Rattle.kb_base.specs.declared.fault.FaultKind.TheVariants as kind
use Rattle.kb_script.specs.declared.fault.ScriptFault.{ScriptFault}
use Rattle.kb_script.specs.declared.fault.ScriptFault.TheVariants as script

abbrev pub script_kind : ScriptFault → FaultKind
script_kind script.Stopped = kind.Stopped
script_kind script.TooLong = kind.TooLong
script_kind script.ReadFailed = kind.ReadFailed
script_kind script.WriteFailed = kind.WriteFailed
script_kind script.Trapped = kind.Trapped
