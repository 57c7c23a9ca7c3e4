-- Splitting a text into tokens. The rules are our decision.
use Rattle.std.specs.Prelude.{◌≡◌, ℕ, zero, suc, ◌<◌, List, [], ◌∷◌, Bool, true, false, if◌then◌else◌}
use Rattle.std.specs.Prelude.{nat_eq}
use Rattle.std.specs.Prelude.{not, ◌&&◌, ◌||◌, Option, Some, None, Result, option_map, codes, length, chars}
use Rattle.kb_when.specs.declared.operator.Operator.TheVariants.{Below, AtMost, Above, AtLeast}
use Rattle.kb_when.specs.declared.fault.WhenFault.{WhenFault}
use Rattle.kb_when.specs.declared.fault.WhenFault.TheVariants.{BadToken}
use Rattle.kb_when.specs.declared.token.Token.{Token}
use Rattle.kb_when.specs.declared.token.Token.TheVariants.{Or, And, Not, Open, Close, Equal, Unequal}
use Rattle.kb_when.specs.declared.token.Token.TheVariants.{Comparison, Like, Word, Quoted, Pattern}
use Rattle.kb_base.specs.Reading.{or_fault}
use Rattle.kb_when.specs.declared.piece.Sign.{Sign}
use Rattle.kb_when.specs.declared.piece.Sign.TheVariants as sign
use Rattle.kb_when.specs.declared.piece.Piece.{Piece}
use Rattle.kb_when.specs.declared.piece.Piece.TheVariants as piece
use Rattle.kb_when.specs.Characters.{begins_blank, ends_word, is_quote, is_no_letter, front, behind, skipped}
use Rattle.kb_when.specs.Characters.{bytes_of, behind_sign}

-- a token and the characters after it, if there is a token
abbrev pub Read : Type 0
Read = Option (Token × List ℕ)

-- the token of a sign, or otherwise the result of the later rules
abbrev pub sign_or : Option (List ℕ) → Token → Read → Read
sign_or (Some rest) t later = Some (t, rest)
sign_or None t later = later

-- the characters after a sign that has white space on both sides
abbrev pub blank_around : Bool → Option (List ℕ) → Option (List ℕ)
blank_around spaced None = None
blank_around spaced (Some rest) = if spaced && begins_blank rest then Some rest else None

-- the token of the first of these signs that is found, or otherwise the result of the later rules
abbrev pub signs_or : (List ℕ → Option (List ℕ)) → List (List ℕ × Token) → Read → Read
signs_or found [] later = later
signs_or found (p ∷ signs) later = sign_or (found p.0) p.1 (signs_or found signs later)

-- the comparisons, longer ones before shorter ones
abbrev pub comparisons : List (List ℕ × Token)
comparisons =
    (codes "<=", Comparison AtMost) ∷ (codes ">=", Comparison AtLeast)
    ∷ (codes "<", Comparison Below) ∷ (codes ">", Comparison Above) ∷ []

-- the other signs, longer ones before shorter ones
abbrev pub signs : List (List ℕ × Token)
signs =
    (codes "===", Equal) ∷ (codes "!==", Unequal) ∷ (codes "==", Equal) ∷ (codes "!=", Unequal)
    ∷ (codes "=~", Like)
    ∷ (codes "&&", And) ∷ (codes "||", Or) ∷ (codes "!", Not) ∷ (codes "(", Open) ∷ (codes ")", Close) ∷ []

-- a comparison, which needs white space on both sides
abbrev pub next_comparison : Bool → List ℕ → Read → Read
next_comparison spaced cs = signs_or (λ sign. blank_around spaced (behind_sign sign cs)) comparisons

-- another sign
abbrev pub next_sign : List ℕ → Read → Read
next_sign cs = signs_or (λ sign. behind_sign sign cs) signs

-- ---- patterns

-- whether the position after a character is inside a "[..]"; these do not nest
abbrev pub in_class : Bool → ℕ → Bool
in_class inside c = nat_eq c 91 || (inside && not (nat_eq c 93))

-- whether a character closes the pattern: a "/" outside "[..]"
abbrev pub closes : Bool → ℕ → Bool
closes inside c = nat_eq c 47 && not inside

-- The characters of a pattern before its closing "/". `escaped`: whether a backslash (92) comes before
-- them; `inside`: whether they are inside a "[..]".
abbrev pub up_to_close : Bool → Bool → List ℕ → List ℕ
up_to_close escaped inside [] = []
up_to_close true inside (c ∷ cs) = c ∷ up_to_close false inside cs
up_to_close false inside (c ∷ cs) =
    if nat_eq c 92 then c ∷ up_to_close true inside cs
    else (if closes inside c then [] else c ∷ up_to_close false (in_class inside c) cs)

-- the characters from the closing "/" on, or none
abbrev pub from_close : Bool → Bool → List ℕ → List ℕ
from_close escaped inside [] = []
from_close true inside (c ∷ cs) = from_close false inside cs
from_close false inside (c ∷ cs) =
    if nat_eq c 92 then from_close true inside cs
    else (if closes inside c then c ∷ cs else from_close false (in_class inside c) cs)

-- a backslash and the character after it; for a "/" (47), only the "/"
abbrev pub pair : ℕ → List ℕ → List ℕ
pair c cs = if nat_eq c 47 then 47 ∷ cs else 92 ∷ c ∷ cs

-- the text of a pattern's characters; `escaped`: whether a backslash comes before them
abbrev pub pattern_text : Bool → List ℕ → List ℕ
pattern_text escaped [] = []
pattern_text true (c ∷ cs) = pair c (pattern_text false cs)
pattern_text false (c ∷ cs) = if nat_eq c 92 then pattern_text true cs else c ∷ pattern_text false cs

-- a pattern and its flags, which are the letters after it, if a "/" closes the pattern
abbrev pub patterned : List ℕ → List ℕ → Read
patterned cs [] = None
patterned cs (c ∷ rest) =
    Some (
      Pattern (bytes_of (pattern_text false cs))
          (bytes_of (front is_no_letter rest)),
      behind is_no_letter rest,
    )

-- the pattern after its opening "/"
abbrev pub next_pattern : List ℕ → Read
next_pattern cs = patterned (up_to_close false false cs) (from_close false false cs)

-- directly after "=~", a "/" begins a pattern
abbrev pub pattern_or : Bool → Option (List ℕ) → Read → Read
pattern_or true (Some rest) later = next_pattern rest
pattern_or true None later = later
pattern_or false o later = later

-- ---- quoted texts and words

-- the text before the closing quote, if there is one
abbrev pub quoted : List ℕ → List ℕ → Read
quoted text [] = None
quoted text (c ∷ rest) = Some (Quoted (bytes_of text), rest)

-- the quoted text after its opening quote, up to the next quote
abbrev pub next_quoted : List ℕ → Read
next_quoted cs = quoted (front is_quote cs) (behind is_quote cs)

-- a quote begins a quoted text
abbrev pub quoted_or : Option (List ℕ) → Read → Read
quoted_or (Some rest) later = next_quoted rest
quoted_or None later = later

-- a word, which is not empty
abbrev pub word_of : List ℕ → List ℕ → Read
word_of [] rest = None
word_of (c ∷ cs) rest = Some (Word (bytes_of (c ∷ cs)), rest)

-- the word at the beginning of the characters, if there is one
abbrev pub next_word : List ℕ → Read
next_word cs = word_of (front ends_word cs) (behind ends_word cs)

-- ---- tokens

-- The next token, by the first rule that applies. `spaced`: whether white space comes directly before the
-- characters; `like`: whether the token before is "=~".
abbrev pub next_token : Bool → Bool → List ℕ → Read
next_token spaced like cs =
    next_comparison spaced cs
    (next_sign cs
    (pattern_or like (behind_sign (codes "/") cs)
    (quoted_or (behind_sign (codes "'") cs)
    (word_of (front ends_word cs) (behind ends_word cs)))))

abbrev pub is_like : Token → Bool
is_like Like = true
is_like _ = false

-- no tokens at the end of the characters
abbrev pub unless_empty : List ℕ → Option (List Token) → Option (List Token)
unless_empty [] o = Some []
unless_empty (c ∷ cs) o = o

-- a token, if there is one, and the tokens after it, if all are valid
abbrev pub after_token : Read → (Token → List ℕ → Option (List Token)) → Option (List Token)
after_token None later = None
after_token (Some p) later = option_map (λ ts. p.0 ∷ ts) (later p.0 p.1)

-- the tokens of characters without leading white space, if there are fewer than the count
abbrev pub lex : ℕ → Bool → Bool → List ℕ → Option (List Token)
lex zero spaced like cs = None
lex (suc count) spaced like cs =
    unless_empty cs (after_token (next_token spaced like cs)
    (λ t rest. lex count (begins_blank rest) (is_like t) (skipped rest)))

-- the tokens of a text, if all are valid and there are fewer than the count
unfoldable pub tokens_within : ℕ → List ℕ → Option (List Token)
tokens_within count text = lex count (begins_blank (chars text)) false (skipped (chars text))

-- The tokens of a text, if all are valid. Each has at least one character, so there are at most as many
-- tokens as characters.
unfoldable pub tokens_of : List ℕ → Option (List Token)
tokens_of text = tokens_within (suc (length (chars text))) text

-- any larger count gives the same tokens
abbrev pub CountSuffices : List ℕ → Type 0
CountSuffices text = (count : ℕ) → length (chars text) < count → tokens_within count text ≡ tokens_of text

-- the token of a piece
abbrev pub token_of_sign : Sign → Token
token_of_sign sign.Or = Or
token_of_sign sign.And = And
token_of_sign sign.Not = Not
token_of_sign sign.Open = Open
token_of_sign sign.Close = Close
token_of_sign sign.Equal = Equal
token_of_sign sign.Unequal = Unequal
token_of_sign sign.Like = Like
token_of_sign (sign.Comparison o) = Comparison o

abbrev pub token_of : Piece → Token
token_of (piece.Sign s) = token_of_sign s
token_of (piece.Word cs) = Word (bytes_of cs.now)
token_of (piece.Quoted cs) = Quoted (bytes_of cs.now)
token_of (piece.Pattern cs flags) = Pattern (bytes_of (pattern_text false cs.now)) (bytes_of flags.now)

-- the tokens of a text, or `BadToken`
abbrev pub tokens_or_fault : List ℕ → Result (List Token) WhenFault
tokens_or_fault text = or_fault BadToken (tokens_of text)
