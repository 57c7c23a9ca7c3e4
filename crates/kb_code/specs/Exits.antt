-- Control flow of instructions.
use Rattle.std.specs.Prelude.{ℕ, Bool, false, ◌==◌, ◌||◌}
use Rattle.kb_code.specs.declared.exits.Exits.{Exits}
use Rattle.kb_code.specs.declared.exits.Exits.TheVariants.{Stop, One, Two, Around, Close}
use Rattle.kb_code.specs.declared.instr.Instr.{Instr}
use Rattle.kb_code.specs.declared.instr.Instr.TheVariants as i

-- the later places where execution can continue after an instruction; `next` is the place after it
abbrev pub exits_of : ℕ → Instr → Exits
exits_of next i.Return = Stop
exits_of next (i.Jump to) = One to
exits_of next (i.JumpIfFalse to) = Two (next) to
exits_of next (i.Repeat n) = Around n next
exits_of next i.End = Close next
exits_of next _ = One (next)

-- whether a place is one of the exits
abbrev pub is_exit : Exits → ℕ → Bool
is_exit Stop q = false
is_exit (One p) q = q == p
is_exit (Two p r) q = (q == p) || (q == r)
is_exit (Around n p) q = q == p
is_exit (Close p) q = q == p
