-- The lines that are read as code are those that the grammar says.
use Rattle.std.proofs.Common.{◌≡◌, refl, ap, ◌∙◌, subst, ℕ, ◌+◌, List, [], ◌∷◌, ◌++◌, Bool, true, false}
use Rattle.std.proofs.Common.{Result, Ok, Err}
use Rattle.std.specs.Prelude.{if◌then◌else◌, IfOk}
use Rattle.kb_base.specs.declared.failure.Failure.{Failure}
use Rattle.kb_base.specs.Failure.{Gives}
use Rattle.kb_base.specs.Reading.{◌>>=◌, seen}
use Rattle.kb_code.specs.declared.instr.Instr.{Instr}
use Rattle.kb_assembly.specs.declared.code.TextFault.{TextFault}
use Rattle.kb_assembly.specs.declared.fault.LineFault.{LineFault}
use Rattle.kb_assembly.specs.declared.fault.Mistake.TheVariants.{DoubleLabel}
use Rattle.kb_assembly.specs.declared.names.Names.{Names}
use Rattle.kb_assembly.specs.declared.words.Word.{Word}
use Rattle.kb_assembly.specs.Names.{label_named}
use Rattle.kb_assembly.specs.Line.{fault_at, instr_of, IsLine}
use Rattle.kb_assembly.specs.Code.{Part, no_part, label_part, instr_part, part_of, text_fault, in_line, is_first, part_read}
use Rattle.kb_assembly.specs.Code.{instrs_of, assembled, names_of, IsCode, no_lines, quiet_line, named_line, instr_line}
use Rattle.kb_assembly.proofs.LineLemmas.{in_grammar, is_read}

nothing_more : (r : Result (List Instr) TextFault) (code : List Instr) → seen (λ more. [] ++ more) r ≡ Ok code → r ≡ Ok code
nothing_more (Ok more) code e = e
nothing_more (Err fault) code e = absurd (cc)

pub code_is : (names : Names) (line : ℕ) (lines : List (List Word)) (code : List Instr) →
    instrs_of names line lines ≡ Ok code → IsCode names line lines code
code_is names line [] code e = let s : [] ≡ code = cc in subst (IsCode names line []) s no_lines
code_is names line (words ∷ lines) code e =
    by (part_of words) refl (code_is names (line + 1) lines) e where
      more : Result (List Instr) TextFault
      more = instrs_of names (line + 1) lines

      Rest : Type 0
      Rest = (code : List Instr) → instrs_of names (line + 1) lines ≡ Ok code → IsCode names (line + 1) lines code

      label : (name : List ℕ) → part_of words ≡ label_part name → Rest → (b : Bool) →
          is_first line (label_named names.labels name) ≡ b →
          ((if b then Ok [] else Err (text_fault line (fault_at 0 DoubleLabel))) >>= λ first. seen (λ rest. first ++ rest) more) ≡ Ok code →
          IsCode names line (words ∷ lines) code
      label name is rest true first e = named_line is first (rest code (nothing_more more code e))
      label name is rest false first e = absurd (cc)

      behind : (instr : Instr) → part_of words ≡ instr_part → IsLine names words instr → Rest → (r : Result (List Instr) TextFault) →
          more ≡ r → seen (λ rest. (instr ∷ []) ++ rest) r ≡ Ok code → IsCode names line (words ∷ lines) code
      behind instr is line_is rest (Ok others) read e =
          let s : instr ∷ others ≡ code = cc in
          subst (IsCode names line (words ∷ lines)) s (instr_line is line_is (rest others read))
      behind instr is line_is rest (Err fault) read e = absurd (cc)

      instr : part_of words ≡ instr_part → Rest → (r : Result Instr LineFault) → instr_of names words ≡ r →
          (in_line line (seen (λ i. i ∷ []) r) >>= λ first. seen (λ rest. first ++ rest) more) ≡ Ok code →
          IsCode names line (words ∷ lines) code
      instr is rest (Ok x) read e = behind x is (in_grammar names words x read) rest more refl e
      instr is rest (Err fault) read e = absurd (cc)

      by : (part : Part) → part_of words ≡ part → Rest →
          (part_read names line part words >>= λ first. seen (λ rest. first ++ rest) more) ≡ Ok code →
          IsCode names line (words ∷ lines) code
      by no_part is rest e = quiet_line is (rest code (nothing_more more code e))
      by (label_part name) is rest e = label name is rest (is_first line (label_named names.labels name)) refl e
      by instr_part is rest e = instr is rest (instr_of names words) refl e

pub code_read : (names : Names) (line : ℕ) (lines : List (List Word)) (code : List Instr) →
    IsCode names line lines code → instrs_of names line lines ≡ Ok code
code_read names line lines code no_lines = refl
code_read names line lines code (quiet_line {words = words} {lines = rest} is more) =
    ap (λ part. part_read names line part words >>= λ first. seen (λ rest. first ++ rest) (instrs_of names (line + 1) rest)) is
    ∙ ap (seen (λ more. [] ++ more)) (code_read names (line + 1) rest code more)
code_read names line lines code (named_line {words = words} {lines = rest} {name = name} is first more) =
    ap (λ part. part_read names line part words >>= λ first. seen (λ rest. first ++ rest) (instrs_of names (line + 1) rest)) is
    ∙ ap (λ b. (if b then Ok [] else Err (text_fault line (fault_at 0 DoubleLabel))) >>= λ first. seen (λ rest. first ++ rest)
    (instrs_of names (line + 1) rest)) first
    ∙ ap (seen (λ more. [] ++ more)) (code_read names (line + 1) rest code more)
code_read names line lines code (instr_line {words = words} {lines = rest} {code = others} {instr = x} is line_is more) =
    ap (λ part. part_read names line part words >>= λ first. seen (λ rest. first ++ rest) (instrs_of names (line + 1) rest)) is
    ∙ ap (λ r. in_line line (seen (λ i. i ∷ []) r) >>= λ first. seen (λ rest. first ++ rest) (instrs_of names (line + 1) rest))
    (is_read names words x line_is)
    ∙ ap (seen (λ more. (x ∷ []) ++ more)) (code_read names (line + 1) rest others more)

-- the same of results
pub given_code : (texts calls params : List (List ℕ)) (lines : List (List Word)) (r : Result (List Instr) (Failure TextFault)) →
    Gives (λ code. code) r (assembled texts calls params lines) →
    IfOk r (IsCode (names_of texts calls params lines) 0 lines)
given_code texts calls params lines (Ok code) e = code_is (names_of texts calls params lines) 0 lines code e
given_code texts calls params lines (Err failure) e = tt

pub given_lines : (texts calls params : List (List ℕ)) (lines : List (List Word)) (r : Result (List Instr) (Failure TextFault))
    (code : List Instr) → IsCode (names_of texts calls params lines) 0 lines code →
    Gives (λ code. code) r (assembled texts calls params lines) → Gives (λ code. code) r (Ok code)
given_lines texts calls params lines r code is e =
    subst (Gives (λ code. code) r) (code_read (names_of texts calls params lines) 0 lines code is) e
