-- The words of a text, and whether the words of a query find those of a label.
use Rattle.std.specs.Prelude.{ℕ, Bool, if◌then◌else◌, List, [], ◌∷◌, ◌++◌, chars, encode_utf8_all, nat_eq}
use Rattle.std.specs.Char.{is_whitespace, encode_utf8}
use Rattle.std.specs.List.{list_all, list_any, starts_with}
use Rattle.caseless.specs.Caseless.{default_case_fold}

-- these words, behind one that has begun with these bytes, if there are any
abbrev pub closed : List ℕ → List (List ℕ) → List (List ℕ)
closed [] words = words
closed (b ∷ bs) words = (b ∷ bs) ∷ words

-- the words of these characters, where the first word has begun with these bytes
abbrev pub words_from : List ℕ → List ℕ → List (List ℕ)
words_from begun [] = closed begun []
words_from begun (c ∷ cs) =
    if is_whitespace c then closed begun (words_from [] cs) else words_from (begun ++ encode_utf8 c) cs

-- the parts of a text between white space, without empty ones
abbrev pub words : List ℕ → List (List ℕ)
words text = words_from [] (chars text)

-- the words of a text after full case folding
abbrev pub folded_words : List ℕ → List (List ℕ)
folded_words text = words (encode_utf8_all (default_case_fold (chars text)))

-- each word of the query begins a word of the label
abbrev pub matches : List (List ℕ) → List (List ℕ) → Bool
matches query label = list_all (λ begin. list_any (λ word. starts_with nat_eq word begin) label) query
