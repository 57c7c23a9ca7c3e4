-- The handlers of a file, given as JSON data, or the first fault.
use Rattle.std.specs.Prelude.{ℕ, ℤ, pos, negsuc, ◌==◌, List, [], ◌∷◌, map, codes, Option, Some, None}
use Rattle.std.specs.Prelude.{Result, Ok, Err, if◌then◌else◌}
use Rattle.serde_json.specs.Data.{Data, Members}
use Rattle.serde_json.specs.Find.{get_member, as_object}
use Rattle.kb_code.specs.Handler.{HandlerData}
use Rattle.kb_code.specs.declared.instr.Instr.{Instr}
use Rattle.kb_code.specs.declared.version.Version.{Version}
use Rattle.kb_code.specs.declared.version.Version.TheVariants.{One, Two}
use Rattle.kb_core.specs.Declaration.{Declaration}
use Rattle.kb_base.specs.Reading.{◌>>=◌, ◌>>◌, guard, or_fault, seen}
use Rattle.kb_jsonc.specs.declared.file_fault.FileFault.{FileFault}
use Rattle.kb_jsonc.specs.declared.file_fault.FileFault.TheVariants.{WrongShape}
use Rattle.kb_jsonc.specs.Parts.{elements_of}
use Rattle.kb_handler_file.specs.declared.entry.Entry.{Entry}
use Rattle.kb_handler_file.specs.declared.entry.Written.{Written}
use Rattle.kb_handler_file.specs.declared.fault.HandlersFault.{HandlersFault}
use Rattle.kb_handler_file.specs.declared.fault.HandlersFault.TheVariants.{DuplicateHandler, TooLarge}
use Rattle.kb_handler_file.specs.Code.{code_in}
use Rattle.kb_handler_file.specs.Entry.{entry_of, required, whole_of}
use Rattle.kb_handler_file.specs.Fault.{shaped}
use Rattle.kb_handler_file.specs.Limits.{are_few, signature_of}
use Rattle.kb_handler_file.specs.Names.{repeats}

-- the version that a number is
abbrev pub version_of : ℤ → Option Version
version_of (pos n) = if n == 1 then Some One else if n == 2 then Some Two else None
version_of (negsuc n) = None

-- the version of a file, and the elements of its list of handlers
pub record Parts : Type 0 where
  pub version : Version
  pub elements : List Data

-- the version and the list
abbrev pub list_in : Members → Result Parts FileFault
list_in ms = do
  number ← required whole_of (get_member (codes "version") ms)
  version ← or_fault WrongShape (version_of number)
  elements ← required elements_of (get_member (codes "handlers") ms)
  Ok (record { version = version; elements = elements })

-- the same for an object
unfoldable pub list_of : Data → Result Parts FileFault
list_of d = or_fault WrongShape (as_object d) >>= list_in

-- the same, if there are not too many
abbrev pub head_of : Data → Result Parts HandlersFault
head_of d = shaped (list_of d) >>= λ parts. guard TooLarge (are_few 1000 parts.elements) >> Ok parts

-- the code of a handler, if its texts and calls are not too many
abbrev pub code_within : Version → Written → Result (List Instr) HandlersFault
code_within version written = do
  texts ← guard TooLarge (are_few 1000 written.texts)
  calls ← guard TooLarge (are_few 1000 written.calls)
  code_in version written.code

-- the handler with this command and declaration
abbrev pub handler_by : Version → List ℕ → Declaration → Written → Result HandlerData HandlersFault
handler_by version command declaration written = code_within version written >>= λ code. Ok (record {
  command = command;
  signature = declaration;
  texts = written.texts;
  calls = written.calls;
  code = code;
})

-- the handler with these members: its limits are checked before its code
unfoldable pub handler_in : Version → Entry → Result HandlerData HandlersFault
handler_in version entry = do
  declaration ← or_fault TooLarge
      (signature_of entry.declared.params entry.declared.budget entry.declared.depth)
  handler_by version entry.declared.command declaration entry.written

-- the handler that an element is, or its first fault
abbrev pub handler_of : Version → Data → Result HandlerData HandlersFault
handler_of version d = shaped (entry_of d) >>= handler_in version

-- the results for all elements in order, or the first fault
abbrev pub each_read : {F A B : Type 0} → (A → Result B F) → List A → Result (List B) F
each_read read [] = Ok []
each_read read (x ∷ xs) = read x >>= λ y. seen (λ ys. y ∷ ys) (each_read read xs)

-- the handlers, if no two have the same command
abbrev pub distinct : List HandlerData → Result (List HandlerData) HandlersFault
distinct handlers =
    if repeats (map (λ handler. handler.command) handlers) then Err DuplicateHandler else Ok handlers

-- the handlers of a file, or its first fault
abbrev pub handlers_of : Data → Result (List HandlerData) HandlersFault
handlers_of d = head_of d >>= (λ parts. each_read (handler_of parts.version) parts.elements) >>= distinct
