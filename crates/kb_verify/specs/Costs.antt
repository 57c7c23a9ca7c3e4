-- The cost of the most expensive path from each place to the end of its block, saturating at the largest
-- number of 64 bits.
use Rattle.std.specs.Prelude.{◌≡◌, ℕ, suc, ◌+◌, ◌-◌, ◌*◌, ◌^◌, min, max, nat_lt, if◌then◌else◌}
use Rattle.std.specs.Prelude.{List, length, Some, slice_get, slice_index}
use Rattle.kb_code.specs.declared.instr.Instr.{Instr}
use Rattle.kb_code.specs.declared.instr.Instr.TheVariants as i
use Rattle.kb_code.specs.declared.exits.Exits.{Exits}
use Rattle.kb_code.specs.declared.exits.Exits.TheVariants.{Stop, One, Two, Around, Close}
use Rattle.kb_code.specs.Blocks.{Closes}
use Rattle.kb_code.specs.Exits.{exits_of}
use Rattle.kb_code.specs.Handler.{HandlerData}
use Rattle.kb_verify.specs.Callable.{Commands}
use Rattle.kb_verify.specs.Paths.{cost, Steps, Path}

abbrev pub capped : ℕ → ℕ
capped n = min n (2 ^ 64 - 1)

-- the cost from a later place
abbrev pub later_cost : List ℕ → ℕ → ℕ → ℕ
later_cost costs p q = if nat_lt p q then slice_index costs q else 0

-- the cost from a place whose instruction has a price, by the costs from the later places; `past` is the
-- place after its block, if it opens one
abbrev pub total : List ℕ → ℕ → ℕ → ℕ → Exits → ℕ
total costs p past price Stop = price
total costs p past price (Close q) = 0
total costs p past price (One q) = price + later_cost costs p q
total costs p past price (Two q r) = price + max (later_cost costs p q) (later_cost costs p r)
total costs p past price (Around n q) =
    price + (n * (later_cost costs p q + 1) + later_cost costs p past)

-- the same, where the block of a `Repeat` at the place ends at e
abbrev pub dearest : Commands → HandlerData → List ℕ → ℕ → ℕ → Instr → ℕ
dearest commands h costs p e instr =
    capped (total costs p (e + 1) (cost commands h instr) (exits_of (suc p) instr))

-- the block of a `Repeat` ends at e; another instruction has no block
abbrev pub HasEnd : List Instr → ℕ → ℕ → Instr → Type 0
HasEnd code p e (i.Repeat n) = Closes code p e
HasEnd code p e _ = Unit {0}

-- the cost from a place
abbrev pub IsDearest : Commands → HandlerData → List ℕ → ℕ → Type 0
IsDearest commands h costs p = (instr : Instr) (e : ℕ) → slice_get h.code p ≡ Some instr →
    HasEnd h.code p e instr → slice_index costs p ≡ dearest commands h costs p e instr

-- the cost from each place
pub record AreCosts (commands : Commands) (h : HandlerData) (costs : List ℕ) : Type 0 where
  pub size : length costs ≡ length h.code
  pub each : (p : ℕ) → IsDearest commands h costs p

-- a most expensive path from a place
pub record IsDearestFrom
    (commands : Commands) (h : HandlerData) (costs : List ℕ) (place : ℕ) (steps : Steps) : Type 0 where
  pub cost : ℕ
  pub is_path : Path commands h place steps cost
  pub is_dearest : capped cost ≡ slice_index costs place
