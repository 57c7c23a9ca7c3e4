-- The blocks of code: a `Repeat` opens one, and an `End` closes the innermost that is open.
use Rattle.std.specs.Prelude.{◌≡◌, ◌<◌, ◌≤◌, ℕ, zero, suc, Bool, true, false, nat_le, ◌==◌, ◌||◌}
use Rattle.std.specs.Prelude.{if◌then◌else◌, List, [], ◌∷◌, length, Option, Some, None, slice_get}
use Rattle.kb_code.specs.declared.instr.Instr.{Instr}
use Rattle.kb_code.specs.declared.instr.Instr.TheVariants as i

-- the open blocks without the innermost; a block is named by the place of its `Repeat`
abbrev pub closed : List ℕ → List ℕ
closed [] = []
closed (q ∷ around) = around

-- the open blocks after the instruction at a place, by those before it, the innermost first
abbrev pub opened : ℕ → Instr → List ℕ → List ℕ
opened p (i.Repeat n) around = p ∷ around
opened p i.End around = closed around
opened p _ around = around

-- the same after the first k instructions of code that begins at a place
abbrev pub around_from : ℕ → List ℕ → List Instr → ℕ → List ℕ
around_from p around code zero = around
around_from p around [] (suc k) = around
around_from p around (instr ∷ code) (suc k) = around_from (suc p) (opened p instr around) code k

-- the blocks around a place, the innermost first; an `End` is in the block that it closes
unfoldable pub around_at : List Instr → ℕ → List ℕ
around_at code place = around_from 0 [] code place

abbrev pub first_of : List ℕ → Option ℕ
first_of [] = None
first_of (q ∷ qs) = Some q

-- the block of a place
abbrev pub block_of : List Instr → ℕ → Option ℕ
block_of code place = first_of (around_at code place)

abbrev pub same : Option ℕ → Option ℕ → Bool
same None None = true
same (Some p) (Some q) = p == q
same _ _ = false

-- whether two places have the same block
abbrev pub same_block : List Instr → ℕ → ℕ → Bool
same_block code p q = same (block_of code p) (block_of code q)

-- whether a place is the next one or one of the same block
abbrev pub is_inside : List Instr → ℕ → ℕ → Bool
is_inside code p q = (q == suc p) || same_block code p q

-- the `End` at a place closes the block of a `Repeat`
pub record Closes (code : List Instr) (q e : ℕ) : Type 0 where
  pub at : slice_get code e ≡ Some i.End
  pub block : block_of code e ≡ Some q

-- ---- well-formed blocks

-- an `End` without an open block, a ninth open block, or a `Return` inside a block
abbrev pub is_bad : Instr → List ℕ → Bool
is_bad i.End [] = true
is_bad (i.Repeat n) around = nat_le 8 (length around)
is_bad i.Return (q ∷ around) = true
is_bad _ _ = false

abbrev pub outermost : List ℕ → Option ℕ
outermost [] = None
outermost (q ∷ []) = Some q
outermost (q ∷ around) = outermost around

-- the first bad place, else the outermost `Repeat` that is never closed
abbrev pub bad_block : ℕ → List ℕ → List Instr → Option ℕ
bad_block p around [] = outermost around
bad_block p around (instr ∷ code) =
    if is_bad instr around then Some p else bad_block (suc p) (opened p instr around) code

-- code has well-formed blocks, and each runs at least once
pub record IsFormed (code : List Instr) : Type 0 where
  pub blocks : bad_block 0 [] code ≡ None
  pub turns : (p n : ℕ) → slice_get code p ≡ Some (i.Repeat n) → 0 < n

-- ---- what the block of a place is

-- a place is inside the block of a `Repeat` and an `End`
pub record IsAround (code : List Instr) (q e p : ℕ) : Type 0 where
  pub closes : Closes code q e
  pub before : q < p
  pub behind : p ≤ e

-- no block is around a place, or one is, and each other one around the place starts before it
abbrev pub IsInnermost : List Instr → ℕ → Option ℕ → Type 0
IsInnermost code p None = (q e : ℕ) → IsAround code q e p → ⊥
IsInnermost code p (Some q) =
    (e : ℕ) × IsAround code q e p × ((other end : ℕ) → IsAround code other end p → other ≤ q)

-- the block of a place is the innermost around it
abbrev pub BlockIsInnermost : Type 0
BlockIsInnermost = (code : List Instr) (p : ℕ) → IsFormed code → IsInnermost code p (block_of code p)
