-- Where the exchanged parts are, and the way back.
use Rattle.std.specs.Prelude.{◌≡◌, ◌≤◌, ◌<◌, ℕ, ◌+◌, ◌-◌, List, [], ◌∷◌, length, nat_le, nat_lt, slice_index}
use Rattle.std.specs.Prelude.{Option, Some, None, if◌then◌else◌}
use Rattle.std.specs.Option.{option_or}
use Rattle.std.specs.List.Sorted.{IsNonDecreasingBy}
use Rattle.kb_exchange.specs.declared.exchanging.Exchange.{Exchange}
use Rattle.kb_exchange.specs.declared.moves.Move.{Move}
use Rattle.kb_exchange.specs.Span.{span}
use Rattle.kb_places.specs.Place.{part_of}

-- the part that stands for an exchange, where the new text goes on with it at an index
abbrev pub moved : Exchange → ℕ → Move
moved e begin = record { old = e.old; new = span begin (begin + length e.text) }

-- the moves of exchanges from an index of the old text on, where the new text has a length so far
abbrev pub moves_from : List ℕ → ℕ → ℕ → List Exchange → List Move
moves_from text at made [] = []
moves_from text at made (e ∷ es) =
    moved e (made + length (part_of text (span at e.old.begin)))
    ∷ moves_from text e.old.end (made + length (part_of text (span at e.old.begin)) + length e.text) es

abbrev pub moves_of : List ℕ → List Exchange → List Move
moves_of text es = moves_from text 0 0 es

-- the last new part that begins at an index or before it
abbrev pub last_begun : List Move → ℕ → Option Move
last_begun [] index = None
last_begun (move ∷ moves) index =
    option_or (last_begun moves index) (if nat_le move.new.begin index then Some move else None)

-- the index in the old text of a byte that stands in or behind this part: all bytes of a new part are where
-- the old part began
abbrev pub behind : Option Move → ℕ → ℕ
behind None index = index
behind (Some move) index =
    if nat_lt index move.new.end then move.old.begin else move.old.end + (index - move.new.end)

-- where a byte of the new text was
abbrev pub old_place : List Move → ℕ → ℕ
old_place moves index = behind (last_begun moves index) index

-- the new parts begin one after the other
abbrev pub AreSorted : List Move → Type 0
AreSorted moves = IsNonDecreasingBy (λ move. move.new.begin) moves

-- ---- what is kept

-- a byte at an index isn't in this new part, but behind it
abbrev pub IsBehind : Option Move → ℕ → Type 0
IsBehind None index = Unit {0}
IsBehind (Some move) index = move.new.end ≤ index

-- each byte of the new text that stands in no new part is the byte of the old text where it was
abbrev pub KeepsOthers : List ℕ → List ℕ → List Move → Type 0
KeepsOthers old new moves =
    (index : ℕ) → index < length new → IsBehind (last_begun moves index) index
    → (old_place moves index < length old) × (slice_index new index ≡ slice_index old (old_place moves index))
