-- The commands that the handlers of an extension may call: the native commands, the handlers of the
-- extensions that it depends on, in load order, and those of its own file. Of equal names the first counts.
use Rattle.std.specs.Prelude.{List, map}
use Rattle.kb_core.specs.Native.{natives}
use Rattle.kb_handler_report.specs.Extension.{handlers_of}
use Rattle.kb_handler_report.specs.declared.extension.ExtensionCode.{ExtensionCode}
use Rattle.kb_verify.specs.Callable.{Commands}
use Rattle.kb_verify.specs.Provider as verify
use Rattle.kb_verify.specs.Provider.{Provided}

-- an extension with its handlers
abbrev pub provided_by : ExtensionCode → Provided
provided_by e = record { id = e.id; handlers = handlers_of e }

-- the commands that handlers of an extension may call, which is one of these
abbrev pub callable_of : List ExtensionCode → ExtensionCode → Commands
callable_of extensions own =
    verify.callable_of natives own.dependencies (map provided_by extensions) (handlers_of own)
