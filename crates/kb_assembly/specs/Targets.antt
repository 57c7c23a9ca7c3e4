-- The places to which jumps lead.
use Rattle.std.specs.Prelude.{◌≡◌, ℕ, ◌≤◌, ◌==◌, ◌||◌, Bool, false, List, [], ◌∷◌, length, get_or}
use Rattle.kb_code.specs.declared.instr.Instr.{Instr}
use Rattle.kb_code.specs.declared.instr.Instr.TheVariants as i

abbrev pub leads_to : ℕ → Instr → Bool
leads_to place (i.Jump to) = to == place
leads_to place (i.JumpIfFalse to) = to == place
leads_to place _ = false

-- a jump of the code leads to the place
abbrev pub is_target : List Instr → ℕ → Bool
is_target [] place = false
is_target (instr ∷ code) place = leads_to place instr || is_target code place

-- the marks are those of the places of the code, and of the one behind it
abbrev pub AreTargets : List Instr → List Bool → Type 0
AreTargets code marks = (place : ℕ) → place ≤ length code → get_or marks place false ≡ is_target code place
