-- A text that is cut at a mark.
use Rattle.std.specs.Prelude.{ℕ, ◌-◌, nat_eq, if◌then◌else◌, List, [], ◌∷◌, length, take, drop}
use Rattle.std.specs.Prelude.{Option, Some, None, option_map}
use Rattle.std.specs.List.{starts_with, ends_with}
use Rattle.std.specs.Option.{option_or}
use denote.Ref.{Bor}

abbrev pub Sides : Type 0
Sides = List ℕ × List ℕ

-- what two references point to
abbrev pub both_sides : Bor (List ℕ) × Bor (List ℕ) → Sides
both_sides (front, back) = (front.now, back.now)

-- what stands before and behind a mark that a text begins with
abbrev pub at_front : List ℕ → List ℕ → Option Sides
at_front mark text = if starts_with nat_eq text mark then Some ([], drop (length mark) text) else None

abbrev pub behind_byte : ℕ → Sides → Sides
behind_byte byte (front, back) = (byte ∷ front, back)

-- what stands before and behind the first place of a mark in a text
abbrev pub around : List ℕ → List ℕ → Option Sides
around mark [] = at_front mark []
around mark (b ∷ bs) = option_or (at_front mark (b ∷ bs)) (option_map (behind_byte b) (around mark bs))

-- what stands before it
abbrev pub before : List ℕ → List ℕ → Option (List ℕ)
before mark text = option_map (λ sides. sides.0) (around mark text)

-- what stands behind it
abbrev pub behind : List ℕ → List ℕ → Option (List ℕ)
behind mark text = option_map (λ sides. sides.1) (around mark text)

-- a text without the mark that it ends with
abbrev pub without_end : List ℕ → List ℕ → Option (List ℕ)
without_end mark text =
    if ends_with nat_eq text mark then Some (take (length text - length mark) text) else None
