-- The kinds of the faults of handler files, and the faults for what was expected.
use Rattle.std.specs.Prelude.{Result, Ok, Err}
use Rattle.kb_base.specs.declared.fault.FaultKind.{FaultKind}
use Rattle.kb_base.specs.declared.fault.FaultKind.TheVariants as kind
use Rattle.kb_code.specs.Fault as code
use Rattle.kb_jsonc.specs.declared.file_fault.FileFault.{FileFault}
use Rattle.kb_jsonc.specs.FileFault as file
use Rattle.kb_handler_file.specs.declared.fault.HandlersFault.{HandlersFault}
use Rattle.kb_jsonc.specs.Mismatch as shape
use Rattle.kb_jsonc.specs.declared.mismatch.Mismatch.{Mismatch}
use Rattle.kb_handler_file.specs.declared.fault.HandlersExpected.{HandlersExpected}
use Rattle.kb_handler_file.specs.declared.fault.HandlersExpected.TheVariants as expected
use Rattle.kb_handler_file.specs.declared.fault.HandlersFault.TheVariants as fault

abbrev pub kind_of : HandlersFault → FaultKind
kind_of (fault.Shape f) = file.kind_of f
kind_of fault.BadHex = kind.BadHex
kind_of fault.DuplicateHandler = kind.DuplicateHandler
kind_of fault.TooLarge = kind.TooLarge
kind_of (fault.Code f) = code.kind_of f

-- a result, with its fault as a fault of handler files
abbrev pub shaped : {A : Type 0} → Result A FileFault → Result A HandlersFault
shaped (Ok x) = Ok x
shaped (Err f) = Err (fault.Shape f)

-- the fault of a file where this is expected and isn't so
abbrev pub fault_of : HandlersExpected → HandlersFault
fault_of (expected.Shape e) = fault.Shape (shape.fault_of e)
fault_of (expected.AtMost n) = fault.TooLarge
fault_of (expected.UpTo n) = fault.TooLarge
fault_of expected.Hex = fault.BadHex
fault_of (expected.CodeWithout f) = fault.Code f
fault_of expected.NewCommand = fault.DuplicateHandler

abbrev pub fault_at : Mismatch HandlersExpected → HandlersFault
fault_at m = fault_of m.expected
