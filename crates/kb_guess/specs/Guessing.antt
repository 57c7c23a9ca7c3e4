-- What a sentence on a problem would have in the place of what it quotes.
use Rattle.std.specs.Prelude.{ℕ, if◌then◌else◌, List, codes, Option, Some, None}
use Rattle.std.specs.Prelude.{option_map, option_and_then, is_some}
use Rattle.std.specs.Option.{option_or}
use Rattle.kb_guess.specs.Cutting.{Sides, around, before, behind, without_end}
use Rattle.kb_guess.specs.declared.guessing.Guess.{Guess}

-- what is wrong, the whole if it is nothing, and what would stand in its place
pub record Meant : Type 0 where
  pub wrong : Option (List ℕ)
  pub right : List ℕ

abbrev pub meant : Guess → Meant
meant guess = record { wrong = option_map (λ w. w.now) guess.wrong; right = guess.right.now }

-- what stands before the end of a quotation
abbrev pub until_quote : List ℕ → Option (List ℕ)
until_quote text = option_or (before (codes "` meant?") text)
    (option_or (before (codes "`; ") text) (without_end (codes "`") text))

-- a word and the one in its place
abbrev pub pair : Option (List ℕ) → Option (List ℕ) → Option Meant
pair wrong right = option_and_then (λ w. option_map (λ r. record { wrong = Some w; right = r }) right) wrong

-- "`WRONG", a mark and "RIGHT`"
abbrev pub of_sides : Sides → Option Meant
of_sides (front, back) = pair (behind (codes "`") front) (until_quote back)

abbrev pub quoted : List ℕ → List ℕ → Option Meant
quoted mark sentence = option_and_then of_sides (around mark sentence)

abbrev pub quoted_by_any : List ℕ → Option Meant
quoted_by_any sentence = option_or (quoted (codes "`; write `") sentence)
    (option_or (quoted (codes "`; is `") sentence) (quoted (codes "`; on a US keyboard it is `") sentence))

-- "; write `RIGHT`"
abbrev pub whole : List ℕ → Option Meant
whole sentence = option_map (λ r. record { wrong = None; right = r })
    (option_and_then until_quote (behind (codes "; write `") sentence))

-- "`KEY,`; .. have a space between them, and no comma"
abbrev pub without_its_comma : List ℕ → Option Meant
without_its_comma word = pair (Some word) (without_end (codes ",") word)

abbrev pub without_comma : List ℕ → Option Meant
without_comma sentence =
    if is_some (around (codes "have a space between them, and no comma") sentence)
    then option_and_then without_its_comma
    (option_and_then (before (codes "`; ")) (behind (codes "`") sentence))
    else None

-- what a sentence guesses: the first of these that it says
abbrev pub guess_in : List ℕ → Option Meant
guess_in sentence =
    option_or (quoted_by_any sentence) (option_or (whole sentence) (without_comma sentence))
