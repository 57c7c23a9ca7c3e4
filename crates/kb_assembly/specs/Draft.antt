-- A handler as a text has it.
use Rattle.std.specs.Prelude.{◌≡◌, ℕ, Bool, true, ◌&&◌, nat_lt, List, [], ◌∷◌, map, Option, Some, None}
use Rattle.std.specs.Prelude.{Result, Ok, Err}
use Rattle.std.specs.Str.{is_utf8}
use Rattle.kb_base.specs.declared.failure.Failure.{Failure}
use Rattle.kb_base.specs.declared.failure.Failure.TheVariants.{NoMemory, Fault}
use Rattle.kb_base.specs.Reading.{◌>>=◌, seen}
use Rattle.kb_code.specs.Handler.{HandlerData}
use Rattle.kb_code.specs.declared.instr.Instr.{Instr}
use Rattle.kb_core.specs.declared.parameter.Param.{Param}
use Rattle.kb_assembly.specs.declared.code.TextFault.{TextFault}
use Rattle.kb_assembly.specs.declared.draft.Draft.{Draft}
use Rattle.kb_assembly.specs.declared.draft.HandlerFault.{HandlerFault}
use Rattle.kb_assembly.specs.declared.head.Head.{Head}
use Rattle.kb_assembly.specs.declared.sections.Section.{Section}
use Rattle.kb_assembly.specs.declared.words.Word.{Word}
use Rattle.kb_assembly.specs.Code.{assembled, IsCode}
use Rattle.kb_assembly.specs.Code.{names_of as names_in}
use Rattle.kb_assembly.specs.Head.{no_head, heads_from, IsHead}
use Rattle.kb_assembly.specs.Text.{are_utf8}
use Rattle.kb_assembly.specs.Uses.{text_used, call_used, grown}

-- a handler, as a text has it
abbrev pub handler_draft : HandlerData → Draft
handler_draft handler = record {
  command = handler.command;
  params = handler.signature.params;
  budget = Some handler.signature.budget;
  depth = Some handler.signature.depth;
  texts = handler.texts;
  calls = handler.calls;
  code = handler.code;
}

abbrev pub names_of : List Param → List (List ℕ)
names_of params = map (λ param. param.name) params

abbrev pub draft_with : List ℕ → Head → List (List ℕ) → List (List ℕ) → List Instr → Draft
draft_with command head texts calls instrs = record {
  command = command;
  params = head.params;
  budget = head.budget;
  depth = head.depth;
  texts = texts;
  calls = calls;
  code = instrs;
}

-- the handler with a head, whose tables also have the names that the lines use
abbrev pub with_code : List ℕ → Head → List (List Word) → Result Draft TextFault
with_code command head lines =
    seen (draft_with command head (grown text_used head.texts lines) (grown call_used head.calls lines))
    (assembled (grown text_used head.texts lines) (grown call_used head.calls lines) (names_of head.params)
    lines)

-- the handler of a command with these lines, or the first fault
abbrev pub draft_of : List ℕ → List (List Word) → Result Draft TextFault
draft_of command lines = heads_from 0 no_head lines >>= λ head. with_code command head lines

abbrev pub placed_fault : ℕ → TextFault → HandlerFault
placed_fault first fault = record { first = first; fault = fault }

abbrev pub placed_result : {A : Type 0} → ℕ → Result A TextFault → Result A HandlerFault
placed_result first (Ok x) = Ok x
placed_result first (Err fault) = Err (placed_fault first fault)

abbrev pub placed_failure : ℕ → Failure TextFault → Failure HandlerFault
placed_failure first NoMemory = NoMemory
placed_failure first (Fault fault) = Fault (placed_fault first fault)

abbrev pub section_draft : Section → Result Draft HandlerFault
section_draft section = placed_result section.line (draft_of section.command section.lines)

-- the handlers of sections, or the fault of the first that has one
abbrev pub drafts_of : List Section → Result (List Draft) HandlerFault
drafts_of [] = Ok []
drafts_of (section ∷ sections) =
    section_draft section >>= λ draft. seen (λ more. draft ∷ more) (drafts_of sections)

-- ---- the grammar

-- the lines of a handler: those of its head, whose tables also have the names that the lines use, and its
-- code
pub record IsHandler (command : List ℕ) (lines : List (List Word)) (draft : Draft) : Type 0 where
  pub head : Head
  pub headed : IsHead no_head lines head
  pub parts : draft ≡ draft_with command head (grown text_used head.texts lines)
      (grown call_used head.calls lines) draft.code
  pub coded : IsCode (names_in (grown text_used head.texts lines) (grown call_used head.calls lines)
      (names_of head.params) lines)
      0 lines draft.code

-- ---- what the types of a handler say

abbrev pub is_wide : Option ℕ → Bool
is_wide None = true
is_wide (Some n) = nat_lt n 4294967296

-- the texts of a handler are UTF-8
abbrev pub has_texts : Draft → Bool
has_texts draft =
    is_utf8 draft.command
    && (are_utf8 draft.texts && (are_utf8 draft.calls && are_utf8 (names_of draft.params)))

-- its budget and its depth have 32 bits
abbrev pub has_limits : Draft → Bool
has_limits draft = is_wide draft.budget && is_wide draft.depth
