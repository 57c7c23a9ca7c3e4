-- The numbers of the lines of instructions, from 1.
use Rattle.std.specs.Prelude.{ℕ, ◌+◌, Bool, true, false, List, [], ◌∷◌, ◌++◌, Option, Some, None}
use Rattle.kb_assembly.specs.Code.{is_instr, part_of}
use Rattle.kb_assembly.specs.declared.sections.Section.{Section}
use Rattle.kb_assembly.specs.declared.words.Word.{Word}
use Rattle.kb_assembly.specs.File.{capped}

abbrev pub number_if : Bool → ℕ → List ℕ
number_if true number = number ∷ []
number_if false number = []

-- the numbers of those lines that have instructions, where the first has this number
abbrev pub numbers_from : ℕ → List (List Word) → List ℕ
numbers_from number [] = []
numbers_from number (words ∷ lines) =
    number_if (is_instr (part_of words)) number ++ numbers_from (capped (number + 1)) lines

-- those of a handler, which begins at the line with this index: the number of the next line is larger by 2
abbrev pub numbers_in : Section → List ℕ
numbers_in section = numbers_from (capped (section.line + 2)) section.lines

abbrev pub numbers_at : Option Section → List ℕ
numbers_at None = []
numbers_at (Some section) = numbers_in section
