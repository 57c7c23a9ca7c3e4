-- The live commands of a new session whose handlers are not verified.
use Rattle.std.specs.Prelude.{ℕ, ◌+◌, List, [], ◌∷◌, Option, Some, None, Result, Ok, Err}
use Rattle.kb_files.specs.declared.fault.LoadFault.{LoadFault}
use Rattle.kb_files.specs.declared.fault.LoadFile.TheVariants as file
use Rattle.kb_code.specs.Handler.{HandlerData}
use Rattle.kb_handler_table.specs.Codes.{raw}
use Rattle.kb_base.specs.Reading.{◌>>=◌}
use Rattle.kb_core.specs.declared.native.Native.{Native}
use Rattle.kb_registry.specs.CodeFault.{code_fault}
use Rattle.kb_registry.specs.Live.{Live, with_code}
use Rattle.kb_registry.specs.declared.fault.RegistryFault.{RegistryFault}
use Rattle.kb_extension_code.specs.Natives.{natives_held, refused_commands}

-- the handlers of extensions, numbered from `number`, unless a name is taken
abbrev pub unless_refused : Option RegistryFault → ℕ → Result Live LoadFault → Result Live LoadFault
unless_refused None number rest = rest
unless_refused (Some fault) number rest = Err (refused_commands (file.Handlers number) fault)

abbrev pub codes_held : ℕ → List (List HandlerData) → Live → Result Live LoadFault
codes_held number [] live = Ok live
codes_held number (handlers ∷ rest) live =
    unless_refused (code_fault (raw handlers) live) number
    (codes_held (number + 1) rest (with_code number (raw handlers) live))

-- closures for these natives, and then the handlers of extensions, in load order
abbrev pub raw_held : List Native → List (List HandlerData) → Result Live LoadFault
raw_held natives handlers = natives_held natives >>= λ live. codes_held 0 handlers live
