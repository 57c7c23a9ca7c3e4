-- The position of a run in a handler.
use Rattle.std.specs.Prelude.{ℕ, suc, ◌+◌, List, [], ◌∷◌, Option, Some, None}
use Rattle.kb_core.specs.declared.arg.Arg.{Arg}

-- the place of the next instruction, the remaining iterations of each open block, the innermost first,
-- and the operands, the topmost first
pub record Position : Type 0 where
  pub place : ℕ
  pub turns : List ℕ
  pub operands : List Arg

-- a position, by its parts
abbrev pub standing : ℕ → List ℕ → List Arg → Position
standing place turns operands = record { place = place; turns = turns; operands = operands }

-- the position at the first instruction: no open block and no operand
abbrev pub outset : Position
outset = record { place = 0; turns = []; operands = [] }

-- the position at another place, in the same blocks
abbrev pub moved : Position → ℕ → List Arg → Position
moved at to operands = record { place = to; turns = at.turns; operands = operands }

-- the position after the current instruction
abbrev pub passed : Position → List Arg → Position
passed at operands = moved at (at.place + 1) operands

-- the position after a `Repeat`, inside its block
abbrev pub entered : Position → ℕ → List Arg → Position
entered at n operands = standing (at.place + 1) (n ∷ at.turns) operands

-- the position after the `End` at a place, of the block of a `Repeat`: in its next iteration if more than
-- one is left, or else after the block
abbrev pub turned : ℕ → List Arg → Option ℕ → List ℕ → Option Position
turned place operands (Some q) (suc (suc n) ∷ turns) = Some (standing (q + 1) (suc n ∷ turns) operands)
turned place operands (Some q) (n ∷ turns) = Some (standing (place + 1) turns operands)
turned place operands _ _ = None
