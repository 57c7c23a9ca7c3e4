-- The code of a handler, as hexadecimal text.
use Rattle.std.specs.Prelude.{ℕ, ◌/◌, ◌%◌, ◌==◌, ◌&&◌, nat_lt, List, length, Option, Some, None}
use Rattle.std.specs.Prelude.{Result, Ok, Err, if◌then◌else◌}
use Rattle.std.specs.Result.{result_ok}
use Rattle.hex.specs.Hex.{decode_of}
use Rattle.kb_code.specs.declared.fault.CodeFault.{CodeFault}
use Rattle.kb_code.specs.declared.instr.Instr.{Instr}
use Rattle.kb_code.specs.declared.version.Version.{Version}
use Rattle.kb_code.specs.Code.{code_fault}
use Rattle.kb_code.specs.Coding.{code_of}
use Rattle.kb_base.specs.Reading.{◌>>=◌, or_fault}
use Rattle.kb_handler_file.specs.declared.fault.HandlersFault.{HandlersFault}
use Rattle.kb_handler_file.specs.declared.fault.HandlersFault.TheVariants.{BadHex, TooLarge, Code}

-- the bytes of a hexadecimal text
abbrev pub bytes_in : List ℕ → Result (List ℕ) HandlersFault
bytes_in text = or_fault BadHex (result_ok (decode_of text))

-- a result, with its fault as a fault of handler files
abbrev pub coded : {A : Type 0} → Result A CodeFault → Result A HandlersFault
coded (Ok x) = Ok x
coded (Err f) = Err (Code f)

-- the instructions that bytes encode, three bytes each, if they are not too many
unfoldable pub instrs_of : Version → List ℕ → Result (List Instr) HandlersFault
instrs_of version bytes =
    if length bytes % 3 == 0 && nat_lt 10000 (length bytes / 3) then Err TooLarge
    else coded (code_of version bytes)

-- instructions as code, if they have no fault
abbrev pub formed : List Instr → Option CodeFault → Result (List Instr) HandlersFault
formed instrs None = Ok instrs
formed instrs (Some fault) = Err (Code fault)

-- the code that bytes encode: its instructions, and then its blocks
abbrev pub code_from : Version → List ℕ → Result (List Instr) HandlersFault
code_from version bytes = instrs_of version bytes >>= λ instrs. formed instrs (code_fault version instrs)

-- the code that a hexadecimal text encodes
abbrev pub code_in : Version → List ℕ → Result (List Instr) HandlersFault
code_in version text = bytes_in text >>= code_from version
