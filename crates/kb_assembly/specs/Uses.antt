-- The texts and calls that lines use by their names, in order of first use.
use Rattle.std.specs.Prelude.{ℕ, Bool, true, false, if◌then◌else◌, List, [], ◌∷◌, ◌++◌, Option, Some, None}
use Rattle.std.specs.Prelude.{is_some}
use Rattle.kb_assembly.specs.declared.mnemonic.Mnemonic.{Mnemonic}
use Rattle.kb_assembly.specs.declared.mnemonic.Space.{Space}
use Rattle.kb_assembly.specs.declared.mnemonic.Space.TheVariants as space
use Rattle.kb_assembly.specs.declared.words.Word.{Word}
use Rattle.kb_assembly.specs.Line.{hash_in}
use Rattle.kb_assembly.specs.Mnemonic.{named, space_of}
use Rattle.kb_assembly.specs.Places.{place_in}

abbrev pub space_named : Option Mnemonic → Space
space_named None = space.Nothing
space_named (Some mnemonic) = space_of mnemonic

-- where the operand comes from of an instruction whose first word this is
abbrev pub space_in : Word → Space
space_in word = if word.is_quoted then space.Nothing else space_named (named word.text)

abbrev pub unless_hash : Option (List ℕ) → Word → Option (List ℕ)
unless_hash (Some digits) word = None
unless_hash None word = Some word.text

-- the name that a word is, unless it is a number behind a `#`
abbrev pub used_word : Word → Option (List ℕ)
used_word word = unless_hash (hash_in word) word

abbrev pub is_text : Space → Bool
is_text space.Texts = true
is_text space.Keys = true
is_text _ = false

abbrev pub is_call : Space → Bool
is_call space.Calls = true
is_call _ = false

abbrev pub used_of : (Space → Bool) → List Word → Option (List ℕ)
used_of wants (first ∷ operand ∷ []) = if wants (space_in first) then used_word operand else None
used_of wants _ = None

-- the text, or the command, that a line uses by its name
abbrev pub text_used : List Word → Option (List ℕ)
text_used words = used_of is_text words

abbrev pub call_used : List Word → Option (List ℕ)
call_used words = used_of is_call words

-- a table with a name, which is added if the table lacks it
abbrev pub with_name : List (List ℕ) → Option (List ℕ) → List (List ℕ)
with_name table None = table
with_name table (Some name) = if is_some (place_in 0 table name) then table else table ++ name ∷ []

-- a table with the names that lines use
abbrev pub grown : (List Word → Option (List ℕ)) → List (List ℕ) → List (List Word) → List (List ℕ)
grown used table [] = table
grown used table (words ∷ lines) = grown used (with_name table (used words)) lines
