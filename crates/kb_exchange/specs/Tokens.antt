-- The tokens of a JSON text without comments: its strings, and all other bytes that aren't blank.
use Rattle.std.specs.Prelude.{ℕ, zero, suc, ◌+◌, ◌==◌, if◌then◌else◌, List, [], ◌∷◌, drop}
use Rattle.std.specs.Prelude.{option_map, unwrap_or}
use Rattle.kb_base.specs.Blank.{is_blank}
use Rattle.kb_jsonc.specs.Pieces.{string_len}
use Rattle.kb_places.specs.declared.span.Span.{Span}
use Rattle.kb_exchange.specs.Span.{span}

-- a string with its quotes, by its place, or another byte
pub data Token : Type 0 where
  string : Span → Token
  sign : ℕ → Token

-- the tokens behind the first n bytes of a text whose first byte has this index; a string that isn't closed,
-- and what follows it, is no token
abbrev pub tokens_past : ℕ → ℕ → List ℕ → List Token
tokens_past n index [] = []
tokens_past (suc n) index (b ∷ bs) = tokens_past n (index + 1) bs
tokens_past zero index (b ∷ bs) =
    if b == 34 then
    unwrap_or
    (option_map (λ n. string (span index (index + 1 + n)) ∷ tokens_past n (index + 1) bs) (string_len bs)) []
    else if is_blank b then tokens_past 0 (index + 1) bs
    else sign b ∷ tokens_past 0 (index + 1) bs

unfoldable pub tokens_from : ℕ → List ℕ → List Token
tokens_from index text = tokens_past 0 index (drop index text)

-- the tokens of a text
abbrev pub tokens : List ℕ → List Token
tokens text = tokens_from 0 text
