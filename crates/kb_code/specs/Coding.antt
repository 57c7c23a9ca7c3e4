-- The encoding of code: for each instruction its opcode, and its operand in two bytes, high byte first.
use Rattle.std.specs.Prelude.{ℕ, suc, ◌%◌, ◌==◌, List, [], ◌∷◌, length, find, Option, Some, None, Result}
use Rattle.std.specs.Prelude.{◌≡◌, Ok, Err, if◌then◌else◌}
use Rattle.std.specs.Int.{w16, to_be_bytes, from_be_bytes}
use Rattle.kb_base.specs.declared.failure.Failure.{Failure}
use Rattle.kb_base.specs.declared.failure.Failure.TheVariants.{NoMemory, Fault}
use Rattle.kb_base.specs.Reading.{◌>>=◌, seen}
use Rattle.kb_code.specs.declared.fault.CodeFault.{CodeFault}
use Rattle.kb_code.specs.declared.fault.CodeFault.TheVariants.{BadLength, BadOpcode, BadOperand}
use Rattle.kb_code.specs.declared.instr.Instr.{Instr}
use Rattle.kb_code.specs.declared.version.Version.{Version}
use Rattle.kb_code.specs.declared.version.Version.TheVariants.{One, Two}
use Rattle.kb_code.specs.Code.{instr_fault}
use Rattle.kb_code.specs.Instr.{opcode_of, operand_of, instructions}

-- the bytes of an instruction; those of code are the bytes of its instructions, in order
abbrev pub bytes_of : Instr → List ℕ
bytes_of instr = opcode_of instr ∷ to_be_bytes w16 (operand_of instr)

-- an instruction without a fault of its own, if it allows the operand
abbrev pub allowed : ℕ → ℕ → Instr → Option CodeFault → Result Instr CodeFault
allowed place operand instr (Some fault) = Err fault
allowed place operand instr None = if operand_of instr == operand then Ok instr else Err (BadOperand place)

-- the instruction found for an opcode, if the version has it and it allows the operand
abbrev pub with_operand : Version → ℕ → ℕ → Option Instr → Result Instr CodeFault
with_operand version place operand None = Err (BadOpcode place)
with_operand version place operand (Some instr) =
    allowed place operand instr (instr_fault version place instr)

-- the instruction at a place, by its opcode and operand
unfoldable pub instr_at : Version → ℕ → ℕ → ℕ → Result Instr CodeFault
instr_at version place opcode operand =
    with_operand version place operand (find (λ instr. opcode_of instr == opcode) (instructions operand))

-- the instructions from a place on, or their first fault
abbrev pub code_from : Version → ℕ → List ℕ → Result (List Instr) CodeFault
code_from version place (opcode ∷ high ∷ low ∷ bytes) =
    instr_at version place opcode (from_be_bytes w16 (high ∷ low ∷ [])) >>= (λ instr.
    seen (λ code. instr ∷ code) (code_from version (suc place) bytes))
code_from version place _ = Ok []

-- the instructions that bytes encode, or their first fault
unfoldable pub code_of : Version → List ℕ → Result (List Instr) CodeFault
code_of version bytes = if length bytes % 3 == 0 then code_from version 0 bytes else Err BadLength

-- what version 1 reads, version 2 reads as the same instructions
abbrev pub ReadsTheSame : Type 0
ReadsTheSame =
    (bytes : List ℕ) (code : List Instr) → code_of One bytes ≡ Ok code → code_of Two bytes ≡ Ok code

-- the failure after a refused allocation: the first fault, or `NoMemory` if there is none
abbrev pub failure_of : Result (List Instr) CodeFault → Failure CodeFault
failure_of (Ok code) = NoMemory
failure_of (Err fault) = Fault fault
