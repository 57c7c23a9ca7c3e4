-- The closures of a new session.
use Rattle.std.specs.Prelude.{List, Result}
use Rattle.kb_files.specs.Fault.{refused_by, refused_file}
use Rattle.kb_files.specs.declared.fault.LoadFault.{LoadFault}
use Rattle.kb_files.specs.declared.fault.LoadFile.{LoadFile}
use Rattle.kb_files.specs.declared.fault.LoadFile.TheVariants as file
use Rattle.kb_base.specs.Refusal.{refusing, refused_for}
use Rattle.kb_base.specs.declared.failure.Failure.{Failure}
use Rattle.kb_base.specs.declared.failure.Failure.TheVariants.{NoMemory, Fault}
use Rattle.kb_core.specs.declared.native.Native.{Native}
use Rattle.kb_registry.specs.Fault as registry
use Rattle.kb_registry.specs.Live.{Live, fresh, all_registered}
use Rattle.kb_registry.specs.declared.fault.RegistryFault.{RegistryFault}

-- closures for these natives are registered in order; a session allows 1,000,000 registrations
abbrev pub natives_held : List Native → Result Live LoadFault
natives_held natives =
    refused_by file.Natives (refusing registry.kind_of (all_registered natives (fresh 1000000)))

-- the fault of a load whose commands, from a file, were refused
abbrev pub refused_commands : LoadFile → RegistryFault → LoadFault
refused_commands of_file fault = refused_file of_file (refused_for (registry.kind_of fault))

-- ---- for private functions

-- the failure of a load whose commands, from a file, were not all registered
abbrev pub load_failure : LoadFile → Failure RegistryFault → Failure LoadFault
load_failure of_file NoMemory = NoMemory
load_failure of_file (Fault fault) = Fault (refused_commands of_file fault)
