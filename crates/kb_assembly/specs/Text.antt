-- A text: its lines, and the bytes of a line.
use Rattle.std.specs.Prelude.{ℕ, ◌+◌, Bool, ◌==◌, not, List, [], ◌∷◌, ◌++◌, length, flat_map}
use Rattle.std.specs.Prelude.{Result, Ok}
use Rattle.std.specs.List.{list_all, prefix_len, slice_split}
use Rattle.std.specs.Str.{is_utf8}
use Rattle.kb_base.specs.Reading.{◌>>=◌, seen}
use Rattle.kb_assembly.specs.declared.code.TextFault.{TextFault}
use Rattle.kb_assembly.specs.declared.words.Word.{Word}
use Rattle.kb_assembly.specs.Words.{words_of}
use Rattle.kb_assembly.specs.Grammar.{written_line}
use Rattle.kb_assembly.specs.Code.{Part, instr_part, part_of, in_line}

abbrev pub is_feed : ℕ → Bool
is_feed b = b == 10

-- the number of bytes before the first line feed
abbrev pub line_len : List ℕ → ℕ
line_len text = prefix_len (λ b. not (is_feed b)) text

-- the words of the lines from one on, or their first fault
abbrev pub words_from : ℕ → List (List ℕ) → Result (List (List Word)) TextFault
words_from line [] = Ok []
words_from line (bytes ∷ rest) =
    in_line line (words_of bytes) >>= λ words. seen (λ more. words ∷ more) (words_from (line + 1) rest)

-- one line more
abbrev pub line_taken : List (List Word) → List ℕ → Result (List (List Word)) TextFault
line_taken lines bytes = seen (λ words. lines ++ words ∷ []) (in_line (length lines) (words_of bytes))

-- the words of the lines of a text
abbrev pub lines_in : List ℕ → Result (List (List Word)) TextFault
lines_in text = words_from 0 (slice_split is_feed text)

-- ---- writing

-- four spaces before an instruction
abbrev pub indent_of : Part → List ℕ
indent_of instr_part = 32 ∷ 32 ∷ 32 ∷ 32 ∷ []
indent_of _ = []

abbrev pub row : List Word → List ℕ
row words = indent_of (part_of words) ++ written_line words

abbrev pub text_of : List (List Word) → List ℕ
text_of lines = flat_map (λ words. row words ++ 10 ∷ []) lines

abbrev pub are_utf8 : List (List ℕ) → Bool
are_utf8 texts = list_all is_utf8 texts
