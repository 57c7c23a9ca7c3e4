-- No load finds a missing callee: a callee of a handler is live when the handler is added, or is added
-- with it.
use Rattle.std.specs.Prelude.{◌≡◌, List, Err}
use Rattle.kb_files.specs.declared.fault.LoadFault.{LoadFault}
use Rattle.kb_code.specs.Handler.{HandlerData}
use Rattle.kb_base.specs.declared.fault.FaultKind.TheVariants.{CalleeNotLive}
use Rattle.kb_base.specs.declared.failure.Failure.TheVariants.{Fault}
use Rattle.kb_core.specs.declared.native.Native.{Native}
use Rattle.kb_files.specs.declared.extension_file.Extension.{Extension}
use Rattle.kb_extension_code.specs.Checked.{LiveChecked}

-- no load fails because a callee isn't live (74)
abbrev pub NeverLacksCallees : Type 0
NeverLacksCallees =
    (natives : List Native) (extensions : List Extension) (handlers : List (List HandlerData))
    (fault : LoadFault) → LiveChecked natives extensions handlers (Err (Fault fault))
    → fault.refusal.kind ≡ CalleeNotLive → ⊥
