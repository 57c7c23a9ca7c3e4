-- Lines as one text, each followed by a line feed, and the offsets behind those line feeds.
use Rattle.std.specs.Prelude.{◌≡◌, ℕ, ◌+◌, ◌-◌, List, [], ◌∷◌, length, take, drop}
use Rattle.std.specs.Str.{IsUtf8}
use Rattle.std.specs.List.{All}
use Rattle.kb_stream.specs.Writing.{text_of_lines}

-- the lines of a text that begins at offset `start`, cut at the offsets behind the line feeds
abbrev pub cut_at : ℕ → List ℕ → List ℕ → List (List ℕ)
cut_at start [] text = []
cut_at start (end ∷ ends) text = take (end - start - 1) text ∷ cut_at end ends (drop (end - start) text)

-- the offsets behind the line feeds of lines whose text begins at offset `start`
abbrev pub ends_of : ℕ → List (List ℕ) → List ℕ
ends_of start [] = []
ends_of start (line ∷ lines) = (start + length line + 1) ∷ ends_of (start + length line + 1) lines

-- the text and the offsets of some lines, each of which is UTF-8
pub record AreLines (text ends : List ℕ) : Type 0 where
  pub lines : List (List ℕ)
  pub text_is : text ≡ text_of_lines lines
  pub ends_are : ends ≡ ends_of 0 lines
  pub texts : All IsUtf8 lines

-- the old lines are the first of the new lines
abbrev pub Begins : List (List ℕ) → List (List ℕ) → Type 0
Begins old new = take (length old) new ≡ old
