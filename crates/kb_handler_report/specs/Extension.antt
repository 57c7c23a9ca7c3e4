-- The handlers of an extension.
use Rattle.std.specs.Prelude.{List, []}
use Rattle.std.specs.Option.{option_map_or}
use Rattle.kb_code.specs.Handler.{HandlerData}
use Rattle.kb_files.specs.Identifiers.{Names}
use Rattle.kb_handler_report.specs.declared.extension.ExtensionCode.{ExtensionCode}

-- its identifier, and those that it depends on
abbrev pub names_of : ExtensionCode → Names
names_of e = record { id = e.id; dependencies = e.dependencies }

-- its handlers, or none if it has no file of handlers
abbrev pub handlers_of : ExtensionCode → List HandlerData
handlers_of e = option_map_or (λ handlers. handlers) e.handlers []
