-- Which instructions are code of a version.
use Rattle.std.specs.Prelude.{◌≡◌, ◌<◌, ℕ, zero, suc, List, [], ◌∷◌, Option, Some, None, option_map}
use Rattle.kb_code.specs.declared.fault.CodeFault.{CodeFault}
use Rattle.kb_code.specs.declared.fault.CodeFault.TheVariants.{BadOpcode, BadOperand, BadBlock}
use Rattle.kb_code.specs.declared.instr.Instr.{Instr}
use Rattle.kb_code.specs.declared.instr.Instr.TheVariants as i
use Rattle.kb_code.specs.declared.version.Version.{Version}
use Rattle.kb_code.specs.declared.version.Version.TheVariants.{One, Two}
use Rattle.kb_code.specs.Blocks.{bad_block}

-- the fault of an instruction at a place: version 1 has no blocks, and a block runs at least once
abbrev pub instr_fault : Version → ℕ → Instr → Option CodeFault
instr_fault One place (i.Repeat n) = Some (BadOpcode place)
instr_fault One place i.End = Some (BadOpcode place)
instr_fault Two place (i.Repeat zero) = Some (BadOperand place)
instr_fault version place instr = None

-- the first of two faults
abbrev pub earlier : Option CodeFault → Option CodeFault → Option CodeFault
earlier (Some fault) later = Some fault
earlier None later = later

-- the first fault of an instruction, from a place on
abbrev pub first_fault : Version → ℕ → List Instr → Option CodeFault
first_fault version place [] = None
first_fault version place (instr ∷ code) =
    earlier (instr_fault version place instr) (first_fault version (suc place) code)

-- the first fault of an instruction, and then the one of the blocks
abbrev pub code_fault : Version → List Instr → Option CodeFault
code_fault version instrs =
    earlier (first_fault version 0 instrs) (option_map BadBlock (bad_block 0 [] instrs))
