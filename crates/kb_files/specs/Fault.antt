-- The words for the files of a load, its faults, and the line of a fault.
use Rattle.std.specs.Prelude.{ℕ, List, ◌++◌, Option, Some, None, Result, Ok, Err, codes, decimal}
use Rattle.kb_base.specs.Fault.{fault_words}
use Rattle.kb_base.specs.declared.fault.FaultKind.{FaultKind}
use Rattle.kb_files.specs.declared.fault.LoadFile.{LoadFile}
use Rattle.kb_files.specs.declared.fault.LoadFile.TheVariants.{Layout, Defaults, User, Extensions, Package}
use Rattle.kb_files.specs.declared.fault.LoadFile.TheVariants.{Handlers, Natives}
use Rattle.kb_files.specs.declared.fault.LoadFault.{LoadFault}
use Rattle.kb_base.specs.declared.failure.Failure.{Failure}
use Rattle.kb_base.specs.declared.failure.Failure.TheVariants.{NoMemory, Fault}
use Rattle.kb_base.specs.declared.refusal.Refusal.{Refusal}

abbrev pub load_file_word : LoadFile → List ℕ
load_file_word Layout = codes "layout"
load_file_word Defaults = codes "defaults"
load_file_word User = codes "user"
load_file_word Extensions = codes "extensions"
load_file_word (Package number) = codes "ext " ++ (decimal number ++ codes " package.json")
load_file_word (Handlers number) = codes "ext " ++ (decimal number ++ codes " handlers.json")
load_file_word Natives = codes "natives"

-- the line of a load's fault: the file, the fault's number and name, and its detail, if it has one
abbrev pub refusal_line : LoadFile → FaultKind → Option (List ℕ) → List ℕ
refusal_line file fault None =
    codes "load refused: " ++ (load_file_word file ++ (codes " " ++ fault_words fault))
refusal_line file fault (Some detail) = codes "load refused: " ++ (load_file_word file ++ (codes " "
    ++ (fault_words fault ++ (codes " " ++ detail))))

abbrev pub load_line : LoadFault → List ℕ
load_line fault = refusal_line fault.file fault.refusal.kind fault.refusal.detail

-- a file is refused
abbrev pub refused_file : LoadFile → Refusal → LoadFault
refused_file file refusal = record { file = file; refusal = refusal }

-- what is held in a file, or the file is refused
abbrev pub refused_by : {X : Type 0} → LoadFile → Result X Refusal → Result X LoadFault
refused_by file (Ok x) = Ok x
refused_by file (Err refusal) = Err (refused_file file refusal)

-- the same failure, of a file: refused memory stays that, and nothing else becomes it
abbrev pub failure_of : LoadFile → Failure Refusal → Failure LoadFault
failure_of file NoMemory = NoMemory
failure_of file (Fault refusal) = Fault (refused_file file refusal)

-- what was read of a file, or the failure of that file
abbrev pub of_file : {X : Type 0} → LoadFile → Result X (Failure Refusal) → Result X (Failure LoadFault)
of_file file (Ok x) = Ok x
of_file file (Err failure) = Err (failure_of file failure)
