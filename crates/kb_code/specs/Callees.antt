-- The callees of a handler: the operands of `Call` at reachable places. The definition visits each
-- instruction once, in order, and so follows only jumps to later places.
use Rattle.std.specs.Prelude.{ℕ, suc, Bool, nat_lt, ◌==◌, ◌||◌, ◌&&◌, if◌then◌else◌}
use Rattle.std.specs.Prelude.{List, [], ◌∷◌, ◌++◌, length}
use Rattle.kb_code.specs.declared.instr.Instr.{Instr}
use Rattle.kb_code.specs.declared.instr.Instr.TheVariants as i
use Rattle.kb_code.specs.Blocks.{is_inside}
use Rattle.kb_code.specs.Exits.{exits_of, is_exit}
use Rattle.kb_code.specs.Handler.{HandlerData}

-- the operand of a `Call`, if it is less than `calls`
abbrev pub called : ℕ → Instr → List ℕ
called calls (i.Call n) = if nat_lt n calls then n ∷ [] else []
called calls _ = []

-- the callees from a place on, given which places are reached before it; `all` is the whole code
abbrev pub callees_from : List Instr → ℕ → ℕ → (ℕ → Bool) → List Instr → List ℕ
callees_from all calls place reached [] = []
callees_from all calls place reached (instr ∷ code) =
    if reached place then called calls instr ++ callees_from all calls (suc place)
    (λ q. reached q || (is_exit (exits_of (suc place) instr) q && is_inside all place q)) code
    else callees_from all calls (suc place) reached code

-- all callees, in order of place; the first place is reached
unfoldable pub callees_of : HandlerData → List ℕ
callees_of h = callees_from h.code (length h.calls) 0 (λ q. q == 0) h.code
