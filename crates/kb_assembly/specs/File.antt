-- A text of handlers, and the handlers of a text.
use Rattle.std.specs.Prelude.{◌≡◌, ℕ, ◌+◌, ◌&&◌, Bool, true, not, min, nat_lt, List, [], ◌∷◌, ◌++◌, length}
use Rattle.std.specs.Prelude.{Result, Ok, Err}
use Rattle.std.specs.List.{list_all, slice_split}
use Rattle.kb_base.specs.declared.failure.Failure.{Failure}
use Rattle.kb_base.specs.declared.failure.Failure.TheVariants.{NoMemory, Fault}
use Rattle.kb_base.specs.Reading.{◌>>=◌}
use Rattle.kb_assembly.specs.declared.code.TextFault.{TextFault}
use Rattle.kb_assembly.specs.declared.draft.Draft.{Draft}
use Rattle.kb_assembly.specs.declared.draft.HandlerFault.{HandlerFault}
use Rattle.kb_assembly.specs.declared.fault.LineFault.{LineFault}
use Rattle.kb_assembly.specs.declared.file.FileFault.{FileFault}
use Rattle.kb_assembly.specs.declared.file.FileFault.TheVariants as ff
use Rattle.kb_assembly.specs.declared.sections.Section.{Section}
use Rattle.kb_assembly.specs.declared.words.Word.{Word}
use Rattle.kb_assembly.specs.Code.{has_room}
use Rattle.kb_assembly.specs.Draft.{drafts_of, IsHandler}
use Rattle.kb_assembly.specs.Grammar.{IsText}
use Rattle.kb_assembly.specs.Line.{bare}
use Rattle.kb_assembly.specs.Sections.{starts, sections_of}
use Rattle.kb_assembly.specs.Text.{is_feed, lines_in}
use Rattle.kb_assembly.specs.Write.{handler_word}

-- ---- reading

-- a sum that is at most the largest number of 64 bits
abbrev pub capped : ℕ → ℕ
capped n = min n 18446744073709551615

abbrev pub line_of : FileFault → ℕ
line_of (ff.Text fault) = fault.line
line_of (ff.Handler fault) = capped (capped (fault.first + 1) + fault.fault.line)

abbrev pub fault_of : FileFault → LineFault
fault_of (ff.Text fault) = fault.fault
fault_of (ff.Handler fault) = fault.fault.fault

abbrev pub in_text : Failure TextFault → Failure FileFault
in_text NoMemory = NoMemory
in_text (Fault fault) = Fault (ff.Text fault)

abbrev pub in_handler : Failure HandlerFault → Failure FileFault
in_handler NoMemory = NoMemory
in_handler (Fault fault) = Fault (ff.Handler fault)

abbrev pub of_text : {A : Type 0} → Result A TextFault → Result A FileFault
of_text (Ok x) = Ok x
of_text (Err fault) = Err (ff.Text fault)

abbrev pub of_handler : {A : Type 0} → Result A HandlerFault → Result A FileFault
of_handler (Ok x) = Ok x
of_handler (Err fault) = Err (ff.Handler fault)

abbrev pub sections_in : List ℕ → Result (List Section) TextFault
sections_in text = lines_in text >>= sections_of

-- the handlers of a text, or its first fault: in the words of a line, in the lines that begin handlers, in a
-- handler
abbrev pub assemble : List ℕ → Result (List Draft) FileFault
assemble text = of_text (sections_in text) >>= λ sections. of_handler (drafts_of sections)

-- ---- the grammar

-- the bytes of each line, and its words
pub data AreLines : List (List ℕ) → List (List Word) → Type 0 where
  no_rows : AreLines [] []
  one_row : {bytes : List ℕ} {words : List Word} {rows : List (List ℕ)} {lines : List (List Word)} →
      IsText bytes words → AreLines rows lines → AreLines (bytes ∷ rows) (words ∷ lines)

-- no line begins a handler
abbrev pub none_starts : List (List Word) → Bool
none_starts lines = list_all (λ words. not (starts words)) lines

-- the lines of handlers, each from the line that begins it up to the next such line
pub data AreHandlers : List (List Word) → List Draft → Type 0 where
  no_handlers : AreHandlers [] []
  one_handler : {name : Word} {lines rest : List (List Word)} {draft : Draft} {drafts : List Draft} →
      IsHandler name.text lines draft → none_starts lines ≡ true → AreHandlers rest drafts →
      AreHandlers ((bare handler_word ∷ name ∷ []) ∷ lines ++ rest) (draft ∷ drafts)

-- the lines of a text: blank ones, and then those of handlers
pub data IsAll : List (List Word) → List Draft → Type 0 where
  body_handlers : {lines : List (List Word)} {drafts : List Draft} → AreHandlers lines drafts →
      IsAll lines drafts
  body_blank : {lines : List (List Word)} {drafts : List Draft} → IsAll lines drafts →
      IsAll ([] ∷ lines) drafts

-- a text of handlers: its bytes, cut at line feeds, are lines of words, and these are lines of handlers
pub record IsFile (text : List ℕ) (drafts : List Draft) : Type 0 where
  pub lines : List (List Word)
  pub rows : AreLines (slice_split is_feed text) lines
  pub body : IsAll lines drafts

-- ---- writing

-- the code of a handler has places and operands that fit
abbrev pub has_code : Draft → Bool
has_code draft = nat_lt (length draft.code) 18446744073709551616 && list_all has_room draft.code
