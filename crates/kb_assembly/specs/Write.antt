-- The lines of a handler.
use Rattle.std.specs.Prelude.{ℕ, true, List, [], ◌∷◌, ◌++◌, map, flat_map, drop, Option, Some, None, decimal}
use Rattle.std.specs.Prelude.{codes}
use Rattle.kb_core.specs.declared.parameter.Param.{Param}
use Rattle.kb_assembly.specs.declared.draft.Draft.{Draft}
use Rattle.kb_assembly.specs.declared.head.Directive.{Directive}
use Rattle.kb_assembly.specs.declared.head.Directive.TheVariants as d
use Rattle.kb_assembly.specs.declared.mnemonic.Space.TheVariants as space
use Rattle.kb_assembly.specs.declared.words.Word.{Word}
use Rattle.kb_assembly.specs.Code.{lines_of}
use Rattle.kb_assembly.specs.Draft.{names_of}
use Rattle.kb_assembly.specs.Head.{directive_name, kind_name, quoted}
use Rattle.kb_assembly.specs.Line.{bare, written_name}
use Rattle.kb_assembly.specs.Text.{text_of}

-- the word of a name, between quotes where it needs them
abbrev pub name_word : List ℕ → Word
name_word name = written_name space.Calls name

-- the word with which a handler begins
abbrev pub handler_word : List ℕ
handler_word = codes ".handler"

abbrev pub handler_line : List ℕ → List Word
handler_line command = bare handler_word ∷ name_word command ∷ []

abbrev pub param_line : Param → List Word
param_line param = bare (codes ".param") ∷ name_word param.name ∷ bare (kind_name param.kind) ∷ []

abbrev pub text_line : List ℕ → List Word
text_line text = bare (codes ".text") ∷ quoted text ∷ []

abbrev pub call_line : List ℕ → List Word
call_line name = bare (codes ".call") ∷ name_word name ∷ []

-- the line of a budget or a depth, if there is one
abbrev pub limit_lines : Directive → Option ℕ → List (List Word)
limit_lines directive None = []
limit_lines directive (Some n) = (bare (directive_name directive) ∷ bare (decimal n) ∷ []) ∷ []

abbrev pub code_lines : Draft → List (List Word)
code_lines draft = lines_of draft.texts draft.calls (names_of draft.params) draft.code

-- the lines of a handler behind the first: its head, and its code
abbrev pub head_lines : Draft → List (List Word)
head_lines draft =
    map param_line draft.params ++ (limit_lines d.Budget draft.budget ++ (limit_lines d.Depth draft.depth
    ++ (map text_line draft.texts ++ map call_line draft.calls)))

abbrev pub draft_lines : Draft → List (List Word)
draft_lines draft = handler_line draft.command ∷ head_lines draft ++ code_lines draft

-- a blank line and the lines of each handler
abbrev pub spaced_lines : List Draft → List (List Word)
spaced_lines drafts = flat_map (λ draft. [] ∷ draft_lines draft) drafts

-- the text of handlers: their lines, with a blank one between two handlers
abbrev pub file_text : List Draft → List ℕ
file_text drafts = text_of (drop 1 (spaced_lines drafts))
