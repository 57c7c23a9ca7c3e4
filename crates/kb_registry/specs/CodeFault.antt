-- The faults of code that can't be added, removed or exchanged.
use Rattle.std.specs.Prelude.{List, ℕ, Option, Some, if◌then◌else◌, option_map}
use Rattle.kb_handler_table.specs.Codes.{CodesData}
use Rattle.kb_handler_table.specs.Live.{handlers_in, handlers_of, has_taken, user_of}
use Rattle.kb_registry.specs.Live.{Live}
use Rattle.kb_registry.specs.Missing.{missing_callee}
use Rattle.kb_registry.specs.declared.fault.RegistryFault.{RegistryFault}
use Rattle.kb_registry.specs.declared.fault.RegistryFault.TheVariants.{AlreadyExists, CalleeNotLive}
use Rattle.kb_registry.specs.declared.fault.RegistryFault.TheVariants.{InUse, SignatureChanged}
use Rattle.kb_code.specs.Face.{same_face}

-- the fault of a missing callee
abbrev pub callee_fault : Option (List ℕ) → Option RegistryFault
callee_fault missing = option_map (λ name. CalleeNotLive) missing

-- a taken name takes precedence over a missing callee
abbrev pub code_fault : CodesData → Live → Option RegistryFault
code_fault codes live =
    if has_taken (handlers_in live.code) codes.handlers then Some AlreadyExists
    else callee_fault (missing_callee codes live)

-- code stays while a verified handler of another extension calls one of its handlers
abbrev pub code_disposal_fault : ℕ → Live → Option RegistryFault
code_disposal_fault extension live = option_map (λ user. InUse) (user_of extension live.code)

-- other commands than before take precedence over a missing callee
abbrev pub exchange_fault : ℕ → CodesData → Live → Option RegistryFault
exchange_fault extension codes live =
    if same_face (handlers_of extension live.code) codes.handlers
    then callee_fault (missing_callee codes live)
    else Some SignatureChanged
