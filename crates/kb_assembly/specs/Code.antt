-- The lines of a handler's code: labels and instructions.
use Rattle.std.specs.Prelude.{◌≡◌, ℕ, ◌+◌, nat_lt, Bool, true, false, not, ◌==◌, ◌&&◌, if◌then◌else◌, List}
use Rattle.std.specs.Prelude.{[], ◌∷◌, ◌++◌, decimal}
use Rattle.std.specs.Prelude.{Option, Some, None, option_map, Result, Ok, Err}
use Rattle.kb_base.specs.Reading.{◌>>=◌, seen}
use Rattle.kb_code.specs.declared.instr.Instr.{Instr}
use Rattle.kb_code.specs.Instr.{operand_of}
use Rattle.kb_assembly.specs.declared.code.TextFault.{TextFault}
use Rattle.kb_assembly.specs.declared.fault.LineFault.{LineFault}
use Rattle.kb_assembly.specs.declared.fault.Mistake.TheVariants.{DoubleLabel}
use Rattle.kb_assembly.specs.declared.table.Label.{Label}
use Rattle.kb_assembly.specs.declared.names.Names.{Names}
use Rattle.kb_assembly.specs.declared.words.Word.{Word}
use Rattle.kb_assembly.specs.Names.{label_named, label_name}
use Rattle.kb_assembly.specs.Targets.{is_target}
use Rattle.kb_assembly.specs.Line.{bare, fault_at, instr_of, written, IsLine}

-- ---- reading

-- the text before a colon at the end
abbrev pub before_colon : List ℕ → Option (List ℕ)
before_colon [] = None
before_colon (b ∷ []) = if b == 58 then Some [] else None
before_colon (b ∷ c ∷ bs) = option_map (λ text. b ∷ text) (before_colon (c ∷ bs))

abbrev pub label_word : Word → Option (List ℕ)
label_word word = if word.is_quoted then None else before_colon word.text

-- the label of a line: its only word, a name and a colon
abbrev pub label_in : List Word → Option (List ℕ)
label_in [] = None
label_in (word ∷ []) = label_word word
label_in (word ∷ other ∷ words) = None

-- a word with which a line of a handler's head begins: one without quotes that begins with a dot
abbrev pub is_dotted : List ℕ → Bool
is_dotted [] = false
is_dotted (b ∷ bs) = b == 46

abbrev pub is_head : Word → Bool
is_head word = not word.is_quoted && is_dotted word.text

-- a line has no words, or is one of a head
abbrev pub is_quiet : List Word → Bool
is_quiet [] = true
is_quiet (word ∷ words) = is_head word

-- a line is quiet, is a label, or is an instruction
pub data Part : Type 0 where
  no_part : Part
  label_part : List ℕ → Part
  instr_part : Part

abbrev pub part_by : Option (List ℕ) → List Word → Part
part_by (Some name) words = label_part name
part_by None words = if is_quiet words then no_part else instr_part

abbrev pub part_of : List Word → Part
part_of words = part_by (label_in words) words

abbrev pub is_instr : Part → Bool
is_instr instr_part = true
is_instr _ = false

-- the label of a line, with its place and the index of the line
abbrev pub noted : Part → ℕ → ℕ → List Label
noted (label_part name) line place = record { name = name; place = place; line = line } ∷ []
noted _ line place = []

-- the place behind a line
abbrev pub behind : Part → ℕ → ℕ
behind instr_part place = place + 1
behind _ place = place

-- the labels of the lines from one on
abbrev pub labels_of : ℕ → ℕ → List (List Word) → List Label
labels_of line place [] = []
labels_of line place (words ∷ lines) =
    noted (part_of words) line place ++ labels_of (line + 1) (behind (part_of words) place) lines

abbrev pub text_fault : ℕ → LineFault → TextFault
text_fault line fault = record { line = line; fault = fault }

abbrev pub in_line : {A : Type 0} → ℕ → Result A LineFault → Result A TextFault
in_line line (Ok x) = Ok x
in_line line (Err fault) = Err (text_fault line fault)

-- the label of a line is the first of its name
abbrev pub is_first : ℕ → Option Label → Bool
is_first line None = false
is_first line (Some label) = label.line == line

abbrev pub one : Option Instr → List Instr
one None = []
one (Some instr) = instr ∷ []

-- the instruction of a line, if it has one
abbrev pub part_read : Names → ℕ → Part → List Word → Result (List Instr) TextFault
part_read names line no_part words = Ok []
part_read names line (label_part name) words =
    if is_first line (label_named names.labels name) then Ok []
    else Err (text_fault line (fault_at 0 DoubleLabel))
part_read names line instr_part words = in_line line (seen (λ i. i ∷ []) (instr_of names words))

-- the instructions of the lines from one on, or their first fault
abbrev pub instrs_of : Names → ℕ → List (List Word) → Result (List Instr) TextFault
instrs_of names line [] = Ok []
instrs_of names line (words ∷ lines) =
    part_read names line (part_of words) words >>= λ first.
    seen (λ more. first ++ more) (instrs_of names (line + 1) lines)

-- names with the labels of lines
abbrev pub with_labels : List (List ℕ) → List (List ℕ) → List (List ℕ) → List Label → Names
with_labels texts calls params labels =
    record { texts = texts; calls = calls; params = params; labels = labels }

-- the instructions of lines, or their first fault
abbrev pub assembled : List (List ℕ) → List (List ℕ) → List (List ℕ) → List (List Word) →
    Result (List Instr) TextFault
assembled texts calls params lines = instrs_of (with_labels texts calls params (labels_of 0 0 lines)) 0 lines

-- ---- writing

-- the labels of the places from one on, and how many lines they take
abbrev pub made_here : Bool → ℕ → ℕ → List Label
made_here true line place = record { name = label_name place; place = place; line = line } ∷ []
made_here false line place = []

abbrev pub next_line : Bool → ℕ → ℕ
next_line true line = line + 1
next_line false line = line

abbrev pub made : List Instr → ℕ → ℕ → List Instr → List Label
made code line place [] = made_here (is_target code place) line place
made code line place (instr ∷ rest) =
    made_here (is_target code place) line place
    ++ made code (next_line (is_target code place) line + 1) (place + 1) rest

-- the line of a label
abbrev pub label_line : ℕ → List Word
label_line place = bare (label_name place ++ 58 ∷ []) ∷ []

abbrev pub label_lines : Bool → ℕ → List (List Word)
label_lines true place = label_line place ∷ []
label_lines false place = []

-- the lines of the instructions from a place on
abbrev pub lines_from : List Instr → Names → ℕ → List Instr → List (List Word)
lines_from code names place [] = label_lines (is_target code place) place
lines_from code names place (instr ∷ rest) =
    label_lines (is_target code place) place ++ written names instr ∷ lines_from code names (place + 1) rest

-- the lines of code
abbrev pub lines_of : List (List ℕ) → List (List ℕ) → List (List ℕ) → List Instr → List (List Word)
lines_of texts calls params code =
    lines_from code (with_labels texts calls params (made code 0 0 code)) 0 code

-- the operand of an instruction fits two bytes
abbrev pub has_room : Instr → Bool
has_room instr = nat_lt (operand_of instr) 65536

-- ---- the grammar

-- the names of lines
abbrev pub names_of : List (List ℕ) → List (List ℕ) → List (List ℕ) → List (List Word) → Names
names_of texts calls params lines = with_labels texts calls params (labels_of 0 0 lines)

-- the lines of code: quiet ones, labels, each the first of its name, and instructions
pub data IsCode (names : Names) : ℕ → List (List Word) → List Instr → Type 0 where
  no_lines : {line : ℕ} → IsCode names line [] []
  quiet_line : {line : ℕ} {words : List Word} {lines : List (List Word)} {code : List Instr} →
      part_of words ≡ no_part → IsCode names (line + 1) lines code → IsCode names line (words ∷ lines) code
  named_line : {line : ℕ} {words : List Word} {lines : List (List Word)} {code : List Instr} {name : List ℕ} →
      part_of words ≡ label_part name → is_first line (label_named names.labels name) ≡ true →
      IsCode names (line + 1) lines code → IsCode names line (words ∷ lines) code
  instr_line : {line : ℕ} {words : List Word} {lines : List (List Word)} {code : List Instr} {instr : Instr} →
      part_of words ≡ instr_part → IsLine names words instr →
      IsCode names (line + 1) lines code → IsCode names line (words ∷ lines) (instr ∷ code)
