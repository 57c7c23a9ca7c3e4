-- The paths of a handler and their costs.
use Rattle.std.specs.Prelude.{◌≡◌, ℕ, suc, ◌+◌, ◌*◌, ◌<◌, ◌≤◌, Bool, true, false}
use Rattle.std.specs.Prelude.{Option, Some, None, slice_get}
use Rattle.kb_core.specs.Declaration.{Declaration}
use Rattle.kb_code.specs.Blocks.{Closes}
use Rattle.kb_code.specs.declared.exits.Exits.TheVariants.{Stop, One, Two, Around, Close}
use Rattle.kb_code.specs.declared.instr.Instr.{Instr}
use Rattle.kb_code.specs.declared.instr.Instr.TheVariants.{Call}
use Rattle.kb_code.specs.Exits.{exits_of}
use Rattle.kb_code.specs.Handler.{HandlerData}
use Rattle.kb_verify.specs.Callable.{Commands, declaration_at}

abbrev pub budget_in : Option Declaration → ℕ
budget_in None = 0
budget_in (Some d) = d.budget

-- an instruction costs 1, and a call also the declared budget of its callee
abbrev pub cost : Commands → HandlerData → Instr → ℕ
cost commands h (Call n) = 1 + budget_in (declaration_at commands h n)
cost commands h _ = 1

-- the steps of a path: for each branch whether it jumps, and for each block the steps of its iterations
pub data Steps : Type 0 where
  Nothing : Steps
  Choice : (jumped : Bool) (rest : Steps) → Steps
  Turns : (turn rest : Steps) → Steps

-- a path from a place to a return, or to the `End` of the place's own block, and its cost; the `End` is not
-- part of the path, and a block of n iterations costs 1 + n * (the cost of its path + 1)
pub data Path (commands : Commands) (h : HandlerData) : ℕ → Steps → ℕ → Type 0 where
  returns : {p : ℕ} (i : Instr) → slice_get h.code p ≡ Some i → exits_of (suc p) i ≡ Stop →
      Path commands h p Nothing (cost commands h i)
  ends : {p q : ℕ} (i : Instr) → slice_get h.code p ≡ Some i → exits_of (suc p) i ≡ Close q →
      Path commands h p Nothing 0
  goes_on : {p q c : ℕ} {steps : Steps} (i : Instr) → slice_get h.code p ≡ Some i →
      exits_of (suc p) i ≡ One q → p < q → Path commands h q steps c →
      Path commands h p steps (cost commands h i + c)
  falls : {p q r c : ℕ} {steps : Steps} (i : Instr) → slice_get h.code p ≡ Some i →
      exits_of (suc p) i ≡ Two q r → p < q → Path commands h q steps c →
      Path commands h p (Choice false steps) (cost commands h i + c)
  jumps : {p q r c : ℕ} {steps : Steps} (i : Instr) → slice_get h.code p ≡ Some i →
      exits_of (suc p) i ≡ Two q r → p < r → Path commands h r steps c →
      Path commands h p (Choice true steps) (cost commands h i + c)
  repeats : {p q n e c d : ℕ} {turn rest : Steps} (i : Instr) → slice_get h.code p ≡ Some i →
      exits_of (suc p) i ≡ Around n q → p < q → Closes h.code p e → Path commands h q turn c →
      Path commands h (suc e) rest d →
      Path commands h p (Turns turn rest) (cost commands h i + (n * (c + 1) + d))

-- no path costs more than the declared budget
abbrev pub IsWithinBudget : Commands → HandlerData → Type 0
IsWithinBudget commands h = (path : Steps) (c : ℕ) → Path commands h 0 path c → c ≤ h.signature.budget

-- this path costs more than the declared budget
pub record IsOverBudget (commands : Commands) (h : HandlerData) (path : Steps) : Type 0 where
  pub cost : ℕ
  pub is_path : Path commands h 0 path cost
  pub over : h.signature.budget < cost

-- the cost of a most expensive path: some path has this cost, and none costs more
pub record IsDearestCost (commands : Commands) (h : HandlerData) (cost : ℕ) : Type 0 where
  pub path : Steps
  pub is_path : Path commands h 0 path cost
  pub dearest : (other : Steps) (c : ℕ) → Path commands h 0 other c → c ≤ cost
