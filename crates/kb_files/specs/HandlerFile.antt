-- The handlers that the bytes of a `handlers.json` hold, or the refusal for the first fault of the file.
use Rattle.std.specs.Prelude.{ℕ, List, Result}
use Rattle.kb_code.specs.Handler.{HandlerData}
use Rattle.kb_base.specs.declared.refusal.Refusal.{Refusal}
use Rattle.kb_base.specs.Reading.{◌>>=◌}
use Rattle.kb_base.specs.Refusal.{refusing}
use Rattle.kb_handler_file.specs.Fault.{kind_of}
use Rattle.kb_handler_file.specs.HandlerFile.{handlers_of}
use Rattle.kb_files.specs.Value.{data_of}

abbrev pub handlers_in : List ℕ → Result (List HandlerData) Refusal
handlers_in bytes = data_of bytes >>= (λ d. refusing kind_of (handlers_of d))
