-- The lines of a handler's head.
use Rattle.std.specs.Prelude.{◌≡◌, ◌<◌, ◌≤◌, ◌^◌, ℕ, ◌+◌, Bool, true, false, nat_lt, if◌then◌else◌}
use Rattle.std.specs.Prelude.{List, [], ◌∷◌, ◌++◌, Option, Some, None, Result, Ok, Err, find, bytes_eq, codes}
use Rattle.std.specs.Prelude.{decimal}
use Rattle.kb_base.specs.declared.failure.Failure.{Failure}
use Rattle.kb_base.specs.declared.failure.Failure.TheVariants.{NoMemory, Fault}
use Rattle.kb_base.specs.Reading.{◌>>=◌, seen, or_fault}
use Rattle.kb_core.specs.declared.arg.Kind.{Kind}
use Rattle.kb_core.specs.declared.arg.Kind.TheVariants as kd
use Rattle.kb_core.specs.declared.parameter.Param.{Param}
use Rattle.kb_assembly.specs.declared.code.TextFault.{TextFault}
use Rattle.kb_assembly.specs.declared.fault.LineFault.{LineFault}
use Rattle.kb_assembly.specs.declared.fault.Mistake.{Mistake}
use Rattle.kb_assembly.specs.declared.fault.Mistake.TheVariants.{UnknownInstruction, MissingOperand}
use Rattle.kb_assembly.specs.declared.fault.Mistake.TheVariants.{ExtraWord, MissingQuotes, OutOfPlace}
use Rattle.kb_assembly.specs.declared.fault.Mistake.TheVariants.{BadKind, BadLimit}
use Rattle.kb_assembly.specs.declared.head.Directive.{Directive}
use Rattle.kb_assembly.specs.declared.head.Directive.TheVariants as d
use Rattle.kb_assembly.specs.declared.head.Entry.{Entry}
use Rattle.kb_assembly.specs.declared.head.Entry.TheVariants as en
use Rattle.kb_assembly.specs.declared.head.Head.{Head}
use Rattle.kb_assembly.specs.declared.words.Word.{Word}
use Rattle.kb_assembly.specs.Code.{in_line, is_head, text_fault}
use Rattle.kb_assembly.specs.Line.{bare, fault_at}
use Rattle.kb_assembly.specs.Names.{wide_in}
use Rattle.kb_assembly.specs.Words.{placed}

-- ---- names

abbrev pub directives : List Directive
directives = d.Param ∷ d.Budget ∷ d.Depth ∷ d.Text ∷ d.Call ∷ []

abbrev pub directive_name : Directive → List ℕ
directive_name d.Param = codes ".param"
directive_name d.Budget = codes ".budget"
directive_name d.Depth = codes ".depth"
directive_name d.Text = codes ".text"
directive_name d.Call = codes ".call"

abbrev pub directive_named : List ℕ → Option Directive
directive_named text = find (λ directive. bytes_eq text (directive_name directive)) directives

abbrev pub kinds : List Kind
kinds = kd.Text ∷ kd.Number ∷ kd.Truth ∷ kd.Any ∷ []

abbrev pub kind_name : Kind → List ℕ
kind_name kd.Text = codes "text"
kind_name kd.Number = codes "number"
kind_name kd.Truth = codes "truth"
kind_name kd.Any = codes "any"

abbrev pub kind_named : List ℕ → Option Kind
kind_named text = find (λ k. bytes_eq text (kind_name k)) kinds

-- ---- reading

-- the only word behind the first
abbrev pub only : List Word → Result Word LineFault
only [] = Err (fault_at 1 MissingOperand)
only (word ∷ []) = Ok word
only (word ∷ other ∷ words) = Err (fault_at 2 ExtraWord)

abbrev pub wide_word : Word → Result ℕ Mistake
wide_word word = if word.is_quoted then Err BadLimit else or_fault BadLimit (wide_in word.text)

abbrev pub kind_word : Word → Result Kind Mistake
kind_word word = if word.is_quoted then Err BadKind else or_fault BadKind (kind_named word.text)

abbrev pub quoted_text : Word → Result (List ℕ) Mistake
quoted_text word = if word.is_quoted then Ok word.text else Err MissingQuotes

abbrev pub limit_in : List Word → Result ℕ LineFault
limit_in words = only words >>= λ word. placed 1 (wide_word word)

abbrev pub param_in : List Word → Result Entry LineFault
param_in [] = Err (fault_at 1 MissingOperand)
param_in (name ∷ []) = Err (fault_at 2 MissingOperand)
param_in (name ∷ kind ∷ []) =
    seen (λ k. en.Param (record { name = name.text; kind = k })) (placed 2 (kind_word kind))
param_in (name ∷ kind ∷ other ∷ words) = Err (fault_at 3 ExtraWord)

abbrev pub text_in : List Word → Result Entry LineFault
text_in words = only words >>= λ word. seen en.Text (placed 1 (quoted_text word))

abbrev pub call_in : List Word → Result Entry LineFault
call_in words = seen (λ word. en.Call word.text) (only words)

-- what a line says, by the words behind the first
abbrev pub entry_with : Directive → List Word → Result Entry LineFault
entry_with d.Param words = param_in words
entry_with d.Budget words = seen en.Budget (limit_in words)
entry_with d.Depth words = seen en.Depth (limit_in words)
entry_with d.Text words = text_in words
entry_with d.Call words = call_in words

abbrev pub directive_in : Word → Result Directive LineFault
directive_in word =
    if word.is_quoted then Err (fault_at 0 UnknownInstruction)
    else or_fault (fault_at 0 UnknownInstruction) (directive_named word.text)

abbrev pub entry_of : List Word → Result Entry LineFault
entry_of [] = Err (fault_at 0 UnknownInstruction)
entry_of (first ∷ operands) = directive_in first >>= λ directive. entry_with directive operands

-- the rank of a line: parameters, the budget, the depth, texts, calls
abbrev pub rank_of : Entry → ℕ
rank_of (en.Param p) = 0
rank_of (en.Budget n) = 1
rank_of (en.Depth n) = 2
rank_of (en.Text t) = 3
rank_of (en.Call t) = 4

abbrev pub no_head : Head
no_head = record { rank = 0; params = []; budget = None; depth = None; texts = []; calls = [] }

-- a head with one line more; there is one budget and one depth
abbrev pub added : Entry → Head → Head
added (en.Param p) h = record h { rank = 0; params = h.params ++ p ∷ [] }
added (en.Budget n) h = record h { rank = 2; budget = Some n }
added (en.Depth n) h = record h { rank = 3; depth = Some n }
added (en.Text t) h = record h { rank = 3; texts = h.texts ++ t ∷ [] }
added (en.Call t) h = record h { rank = 4; calls = h.calls ++ t ∷ [] }

abbrev pub taken : Head → Entry → Result Head LineFault
taken h entry = if nat_lt (rank_of entry) h.rank then Err (fault_at 0 OutOfPlace) else Ok (added entry h)

-- behind a label or an instruction no line of the head follows
abbrev pub past_head : Head → Head
past_head h = record h { rank = 5 }

-- the head behind one more line of the handler
abbrev pub head_step : Head → List Word → Result Head LineFault
head_step h [] = Ok h
head_step h (word ∷ words) = if is_head word then (entry_of (word ∷ words) >>= taken h) else Ok (past_head h)

-- the head behind the lines from one on, or their first fault
abbrev pub heads_from : ℕ → Head → List (List Word) → Result Head TextFault
heads_from line h [] = Ok h
heads_from line h (words ∷ lines) = in_line line (head_step h words) >>= λ k. heads_from (line + 1) k lines

abbrev pub failure_in : ℕ → Failure LineFault → Failure TextFault
failure_in line NoMemory = NoMemory
failure_in line (Fault fault) = Fault (text_fault line fault)

-- ---- the grammar

abbrev pub quoted : List ℕ → Word
quoted text = record { is_quoted = true; text = text }

-- the words of a line of a head; a name may stand between quotes
pub data IsEntry : List Word → Entry → Type 0 where
  param_entry : (name : Word) (k : Kind) →
      IsEntry (bare (codes ".param") ∷ name ∷ bare (kind_name k) ∷ [])
      (en.Param (record { name = name.text; kind = k }))
  budget_entry : (n : ℕ) → n < 2 ^ 32 → IsEntry (bare (codes ".budget") ∷ bare (decimal n) ∷ []) (en.Budget n)
  depth_entry : (n : ℕ) → n < 2 ^ 32 → IsEntry (bare (codes ".depth") ∷ bare (decimal n) ∷ []) (en.Depth n)
  text_entry : (text : List ℕ) → IsEntry (bare (codes ".text") ∷ quoted text ∷ []) (en.Text text)
  call_entry : (name : Word) → IsEntry (bare (codes ".call") ∷ name ∷ []) (en.Call name.text)

-- the lines of a handler, by the head before them and that behind them: lines of the head, each of no lower
-- rank than the one before it, and then labels and instructions
pub data IsHead : Head → List (List Word) → Head → Type 0 where
  head_end : {h : Head} → IsHead h [] h
  head_blank : {h k : Head} {lines : List (List Word)} → IsHead h lines k → IsHead h ([] ∷ lines) k
  head_entry : {h k : Head} {entry : Entry} {word : Word} {words : List Word} {lines : List (List Word)} →
      is_head word ≡ true → IsEntry (word ∷ words) entry → h.rank ≤ rank_of entry →
      IsHead (added entry h) lines k →
      IsHead h ((word ∷ words) ∷ lines) k
  head_code : {h k : Head} {word : Word} {words : List Word} {lines : List (List Word)} →
      is_head word ≡ false → IsHead (past_head h) lines k → IsHead h ((word ∷ words) ∷ lines) k
