-- The words of an instruction.
use Rattle.std.specs.Prelude.{◌≡◌, ◌<◌, ◌^◌, ℕ, true, false, not, ◌&&◌, ◌||◌, ◌⊎◌, if◌then◌else◌}
use Rattle.std.specs.Prelude.{List, [], ◌∷◌, Option, Some, None, Result, Ok, Err, decimal}
use Rattle.kb_base.specs.Reading.{◌>>=◌, seen, or_fault}
use Rattle.kb_code.specs.declared.instr.Instr.{Instr}
use Rattle.kb_code.specs.Instr.{operand_of}
use Rattle.kb_assembly.specs.declared.fault.LineFault.{LineFault}
use Rattle.kb_assembly.specs.declared.fault.Mistake.{Mistake}
use Rattle.kb_assembly.specs.declared.fault.Mistake.TheVariants.{UnknownInstruction, MissingOperand}
use Rattle.kb_assembly.specs.declared.fault.Mistake.TheVariants.{ExtraWord, BadNumber, MissingQuotes}
use Rattle.kb_assembly.specs.declared.mnemonic.Mnemonic.{Mnemonic}
use Rattle.kb_assembly.specs.declared.mnemonic.Space.{Space}
use Rattle.kb_assembly.specs.declared.mnemonic.Space.TheVariants as space
use Rattle.kb_assembly.specs.declared.names.Names.{Names}
use Rattle.kb_assembly.specs.declared.words.Word.{Word}
use Rattle.kb_assembly.specs.Mnemonic.{name_of, named, mnemonic_of, instr_with, space_of}
use Rattle.kb_assembly.specs.Names.{number_in, after_hash, is_bare, needs_quotes, found, lack, short, chosen}
use Rattle.kb_assembly.specs.Words.{placed}

-- ---- reading

abbrev pub bare : List ℕ → Word
bare text = record { is_quoted = false; text = text }

-- what is behind the `#` of a word without quotes
abbrev pub hash_in : Word → Option (List ℕ)
hash_in word = if word.is_quoted then None else after_hash word.text

abbrev pub number_word : Word → Result ℕ Mistake
number_word word = if word.is_quoted then Err BadNumber else or_fault BadNumber (number_in word.text)

abbrev pub named_word : Names → Space → Word → Result ℕ Mistake
named_word names kind word =
    if needs_quotes kind && not word.is_quoted then Err MissingQuotes
    else or_fault (lack (found names kind word.text)) (short (found names kind word.text))

abbrev pub by_hash : Names → Space → Word → Option (List ℕ) → Result ℕ Mistake
by_hash names kind word (Some digits) = or_fault BadNumber (number_in digits)
by_hash names kind word None = named_word names kind word

-- the number of the operand that a word stands for
abbrev pub operand_word : Names → Space → Word → Result ℕ Mistake
operand_word names space.Number word = number_word word
operand_word names kind word = by_hash names kind word (hash_in word)

abbrev pub fault_at : ℕ → Mistake → LineFault
fault_at at mistake = record { at = at; mistake = mistake }

abbrev pub one_operand : (Word → Result ℕ Mistake) → List Word → Result ℕ LineFault
one_operand read [] = Err (fault_at 1 MissingOperand)
one_operand read (word ∷ []) = placed 1 (read word)
one_operand read (word ∷ other ∷ words) = Err (fault_at 2 ExtraWord)

abbrev pub no_operand : List Word → Result ℕ LineFault
no_operand [] = Ok 0
no_operand (word ∷ words) = Err (fault_at 1 ExtraWord)

-- the number of the operand that the words behind the first stand for
abbrev pub operand_in : Names → Space → List Word → Result ℕ LineFault
operand_in names space.Nothing words = no_operand words
operand_in names kind words = one_operand (operand_word names kind) words

abbrev pub first_word : Word → Result Mnemonic LineFault
first_word word =
    if word.is_quoted then Err (fault_at 0 UnknownInstruction)
    else or_fault (fault_at 0 UnknownInstruction) (named word.text)

-- the instruction of words, or their first fault, at the index of a word
abbrev pub instr_of : Names → List Word → Result Instr LineFault
instr_of names [] = Err (fault_at 0 UnknownInstruction)
instr_of names (first ∷ operands) =
    first_word first >>= λ mnemonic.
    seen (instr_with mnemonic) (operand_in names (space_of mnemonic) operands)

-- ---- writing

abbrev pub written_name : Space → List ℕ → Word
written_name kind name = record { is_quoted = needs_quotes kind || not (is_bare name); text = name }

-- the word of an operand: a name that stands for it, or else its number
abbrev pub written_word : Space → ℕ → Option (List ℕ) → Word
written_word kind n (Some name) = written_name kind name
written_word kind n None = bare (35 ∷ decimal n)

abbrev pub written_operand : Names → Space → ℕ → List Word
written_operand names space.Nothing n = []
written_operand names space.Number n = bare (decimal n) ∷ []
written_operand names kind n = written_word kind n (chosen names kind n) ∷ []

abbrev pub listed : Option Word → List Word
listed None = []
listed (Some word) = word ∷ []

-- the words of an instruction
abbrev pub written : Names → Instr → List Word
written names instr =
    bare (name_of (mnemonic_of instr))
    ∷ written_operand names (space_of (mnemonic_of instr)) (operand_of instr)

-- ---- the grammar

-- the word names a number: by a text that is in quotes where the space wants quotes
pub record IsNamed (names : Names) (kind : Space) (word : Word) (n : ℕ) : Type 0 where
  pub no_hash : hash_in word ≡ None
  pub quotes : needs_quotes kind ≡ true → word.is_quoted ≡ true
  pub found : short (found names kind word.text) ≡ Some n

-- the word is a number behind a `#`, or names it
abbrev pub IsSpelled : Names → Space → Word → ℕ → Type 0
IsSpelled names kind word n = ((word ≡ bare (35 ∷ decimal n)) × (n < 2 ^ 16)) ⊎ IsNamed names kind word n

-- the words of an operand
abbrev pub IsOperand : Names → Space → List Word → ℕ → Type 0
IsOperand names space.Nothing words n = words ≡ []
IsOperand names space.Number words n = (words ≡ bare (decimal n) ∷ []) × (n < 2 ^ 16)
IsOperand names kind words n = (word : Word) × (words ≡ word ∷ []) × IsSpelled names kind word n

-- the words of an instruction: its name, and an operand if it has one
pub record IsLine (names : Names) (words : List Word) (instr : Instr) : Type 0 where
  pub operands : List Word
  pub first : words ≡ bare (name_of (mnemonic_of instr)) ∷ operands
  pub operand : IsOperand names (space_of (mnemonic_of instr)) operands (operand_of instr)
