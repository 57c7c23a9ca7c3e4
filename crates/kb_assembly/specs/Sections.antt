-- The lines of each handler of a text.
use Rattle.std.specs.Prelude.{◌≡◌, ℕ, ◌+◌, Bool, true, false, not, ◌&&◌, if◌then◌else◌, List, [], ◌∷◌, ◌++◌}
use Rattle.std.specs.Prelude.{Option, Some, None, Result, Ok, Err, bytes_eq, codes}
use Rattle.kb_base.specs.Reading.{◌>>=◌, seen}
use Rattle.kb_assembly.specs.declared.code.TextFault.{TextFault}
use Rattle.kb_assembly.specs.declared.fault.LineFault.{LineFault}
use Rattle.kb_assembly.specs.declared.fault.Mistake.TheVariants.{MissingOperand, ExtraWord, NoHandler}
use Rattle.kb_assembly.specs.declared.sections.Cut.{Cut}
use Rattle.kb_assembly.specs.declared.sections.Section.{Section}
use Rattle.kb_assembly.specs.declared.words.Word.{Word}
use Rattle.kb_assembly.specs.Code.{in_line, text_fault}
use Rattle.kb_assembly.specs.Line.{fault_at}

-- a line begins a handler
abbrev pub starts : List Word → Bool
starts [] = false
starts (first ∷ words) = not first.is_quoted && bytes_eq first.text (codes ".handler")

abbrev pub name_in : List Word → Result (List ℕ) LineFault
name_in [] = Err (fault_at 1 MissingOperand)
name_in (first ∷ []) = Err (fault_at 1 MissingOperand)
name_in (first ∷ name ∷ []) = Ok name.text
name_in (first ∷ name ∷ other ∷ words) = Err (fault_at 2 ExtraWord)

abbrev pub no_cut : Cut
no_cut = record { done = []; last = None }

abbrev pub section : List ℕ → ℕ → List (List Word) → Section
section command line lines = record { command = command; line = line; lines = lines }

abbrev pub listed : Option Section → List Section
listed None = []
listed (Some last) = last ∷ []

-- the handlers so far
abbrev pub closed : Cut → List Section
closed cut = cut.done ++ listed cut.last

abbrev pub opened : Cut → ℕ → List ℕ → Cut
opened cut line name = record { done = closed cut; last = Some (section name line []) }

-- the last handler with one line more; before all handlers there are blank lines alone
abbrev pub before_all : ℕ → List Word → Result (Option Section) TextFault
before_all line [] = Ok None
before_all line (word ∷ words) = Err (text_fault line (fault_at 0 NoHandler))

abbrev pub added : Option Section → ℕ → List Word → Result (Option Section) TextFault
added None line words = before_all line words
added (Some s) line words = Ok (Some (record s { lines = s.lines ++ words ∷ [] }))

abbrev pub with_last : Cut → Option Section → Cut
with_last cut last = record { done = cut.done; last = last }

abbrev pub cut_step : Cut → ℕ → List Word → Result Cut TextFault
cut_step cut line words =
    if starts words then in_line line (seen (opened cut line) (name_in words))
    else seen (with_last cut) (added cut.last line words)

-- the last handler, and those of the lines from one on, or the first fault of these
abbrev pub cut_from : ℕ → Option Section → List (List Word) → Result (List Section) TextFault
cut_from line last [] = Ok (listed last)
cut_from line last (words ∷ lines) =
    if starts words then
    (in_line line (name_in words) >>= λ name.
    seen (λ more. listed last ++ more) (cut_from (line + 1) (Some (section name line [])) lines))
    else (added last line words >>= λ next. cut_from (line + 1) next lines)

-- the handlers of lines, or their first fault
abbrev pub sections_of : List (List Word) → Result (List Section) TextFault
sections_of lines = cut_from 0 None lines
