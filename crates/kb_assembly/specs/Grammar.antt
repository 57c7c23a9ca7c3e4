-- The grammar of a line: which bytes spell which words.
use Rattle.std.specs.Prelude.{◌≡◌, ◌<◌, ℕ, Bool, true, false, ◌==◌, ◌||◌, ◌&&◌, not, if◌then◌else◌}
use Rattle.std.specs.Prelude.{List, [], ◌∷◌, ◌++◌, length, flat_map, Some}
use Rattle.std.specs.List.{list_all}
use Rattle.std.specs.Str.{is_utf8}
use Rattle.kb_base.specs.Blank.{is_blank}
use Rattle.kb_assembly.specs.declared.words.Word.{Word}
use Rattle.kb_assembly.specs.Words.{quote, semicolon, backslash, is_plain, escaped}

-- the bytes between quotes, and the text that they spell
pub data IsBody : List ℕ → List ℕ → Type 0 where
  no_bytes : IsBody [] []
  plain_byte : {b : ℕ} {bs text : List ℕ} → (b == quote) ≡ false → (b == backslash) ≡ false → IsBody bs text →
      IsBody (b ∷ bs) (b ∷ text)
  escape_bytes : {b c : ℕ} {bs text : List ℕ} → escaped c ≡ Some b → IsBody bs text →
      IsBody (backslash ∷ c ∷ bs) (b ∷ text)

-- the bytes of a word: its text, or its text between quotes
pub data IsWord : List ℕ → Word → Type 0 where
  bare_word : {text : List ℕ} → 0 < length text → list_all is_plain text ≡ true →
      IsWord text (record { is_quoted = false; text = text })
  quoted_word : {bs text : List ℕ} → IsBody bs text → is_utf8 text ≡ true →
      IsWord (quote ∷ bs ++ quote ∷ []) (record { is_quoted = true; text = text })

-- a word ends at the end of the line, at white space and at a comment
abbrev pub ends_word : List ℕ → Bool
ends_word [] = true
ends_word (b ∷ bs) = is_blank b || b == semicolon

-- a line: words, each with white space before it or the start of the line, and then a comment or none
pub data IsText : List ℕ → List Word → Type 0 where
  no_text : IsText [] []
  comment_text : (bs : List ℕ) → IsText (semicolon ∷ bs) []
  blank_text : {b : ℕ} {bs : List ℕ} {words : List Word} → is_blank b ≡ true → IsText bs words →
      IsText (b ∷ bs) words
  word_text : {bs rest : List ℕ} {w : Word} {words : List Word} → IsWord bs w → ends_word rest ≡ true →
      IsText rest words →
      IsText (bs ++ rest) (w ∷ words)

-- ---- the one form that is written

abbrev pub written_byte : ℕ → List ℕ
written_byte b =
    if b == quote then backslash ∷ quote ∷ []
    else if b == backslash then backslash ∷ backslash ∷ []
    else if b == 10 then backslash ∷ 110 ∷ []
    else if b == 13 then backslash ∷ 114 ∷ []
    else if b == 9 then backslash ∷ 116 ∷ []
    else b ∷ []

abbrev pub written_text : Word → List ℕ
written_text word =
    if word.is_quoted then quote ∷ flat_map written_byte word.text ++ quote ∷ [] else word.text

-- a space before further words
abbrev pub gap : List Word → List ℕ
gap [] = []
gap (word ∷ words) = 32 ∷ []

-- words with a space between two
abbrev pub written_line : List Word → List ℕ
written_line [] = []
written_line (word ∷ words) = written_text word ++ (gap words ++ written_line words)

-- what can stand as a word
abbrev pub can_stand : Word → Bool
can_stand word =
    if word.is_quoted then is_utf8 word.text
    else not (length word.text == 0) && list_all is_plain word.text
