-- What each fault means for a handler.
use Rattle.std.specs.Prelude.{◌≡◌, ℕ, ◌<◌, ◌⊎◌, length, Some}
use Rattle.kb_base.specs.declared.fault.FaultKind.{FaultKind}
use Rattle.kb_base.specs.declared.fault.FaultKind.TheVariants as kind
use Rattle.kb_base.specs.declared.failure.Failure.{Failure}
use Rattle.kb_base.specs.declared.failure.Failure.TheVariants.{NoMemory, Fault}
use Rattle.kb_code.specs.Blocks.{IsFormed}
use Rattle.kb_code.specs.Code.{code_fault}
use Rattle.kb_code.specs.Fault as code
use Rattle.kb_code.specs.Handler.{HandlerData}
use Rattle.kb_code.specs.declared.fault.CodeFault.{CodeFault}
use Rattle.kb_code.specs.declared.version.Version.TheVariants.{Two}
use Rattle.kb_verify.specs.declared.fault.Defect.{Defect}
use Rattle.kb_verify.specs.declared.fault.Defect.TheVariants as defect
use Rattle.kb_verify.specs.declared.fault.VerifyFault.{VerifyFault}
use Rattle.kb_verify.specs.declared.fault.VerifyFault.TheVariants.{Wrong, OverBudget, OverDepth}
use Rattle.kb_verify.specs.Callable.{Commands}
use Rattle.kb_verify.specs.Fault.{kind_of}
use Rattle.kb_verify.specs.Shapes.{HasShapes, IsFirstWrong}
use Rattle.kb_verify.specs.Paths.{Steps, IsWithinBudget, IsOverBudget}
use Rattle.kb_verify.specs.Route.{route_of}
use Rattle.kb_verify.specs.Accepted.{IsAccepted, IsFirstTooDeep}

-- a handler without code falls off its end at place 0
abbrev pub IsEmpty : HandlerData → Defect → ℕ → Type 0
IsEmpty h wrong place = (length h.code ≡ 0) × (wrong ≡ defect.FallsOff) × (place ≡ 0)

-- the meaning of each fault; shapes are checked before the budget, and the budget before the depth
abbrev pub IsFault : Commands → HandlerData → VerifyFault → Type 0
IsFault commands h (Wrong wrong place) = IsEmpty h wrong place ⊎ IsFirstWrong commands h place wrong
IsFault commands h (OverBudget path) =
    IsFormed h.code × HasShapes commands h × IsOverBudget commands h (route_of path.items)
IsFault commands h (OverDepth place) =
    IsFormed h.code × HasShapes commands h × IsWithinBudget commands h × IsFirstTooDeep commands h place

-- a handler has the fault, or memory was refused; the check of a handler without code doesn't allocate
abbrev pub IsFailure : Commands → HandlerData → Failure VerifyFault → Type 0
IsFailure commands h NoMemory = 0 < length h.code
IsFailure commands h (Fault fault) = IsFault commands h fault

-- both faults are the same; any two paths that cost too much count as the same
abbrev pub IsSameFault : VerifyFault → VerifyFault → Type 0
IsSameFault (Wrong d p) (Wrong e q) = (d ≡ e) × (p ≡ q)
IsSameFault (OverBudget path) (OverBudget other) = Unit {0}
IsSameFault (OverDepth p) (OverDepth q) = p ≡ q
IsSameFault _ _ = ⊥

-- a fault other than refused memory
abbrev pub IsTrueFault : Failure VerifyFault → Type 0
IsTrueFault NoMemory = ⊥
IsTrueFault (Fault fault) = Unit {0}

-- a handler has a fault: the path of `is_dear` may be too long for a list in memory, and no handler that is
-- read is without code (`not_code`)
pub data IsRefused (commands : Commands) (h : HandlerData) : Type 0 where
  has_defect : (defect : Defect) (place : ℕ) → IsEmpty h defect place ⊎ IsFirstWrong commands h place defect →
      IsRefused commands h
  is_dear : (path : Steps) → IsFormed h.code → HasShapes commands h → IsOverBudget commands h path →
      IsRefused commands h
  is_deep : (place : ℕ) → IsFormed h.code → HasShapes commands h → IsWithinBudget commands h →
      IsFirstTooDeep commands h place → IsRefused commands h
  not_code : (fault : CodeFault) → 0 < length h.code → HasShapes commands h →
      code_fault Two h.code ≡ Some fault → IsRefused commands h

-- the kind of the fault
abbrev pub kind_in : {commands : Commands} {h : HandlerData} → IsRefused commands h → FaultKind
kind_in (has_defect defect place is) = kind_of (Wrong defect place)
kind_in (is_dear path formed has over) = kind.OverBudget
kind_in (is_deep place formed has within deep) = kind.OverDepth
kind_in (not_code fault some has is) = code.kind_of fault

-- a handler is accepted, or it has a fault
abbrev pub IsDecided : Commands → HandlerData → Type 0
IsDecided commands h = IsAccepted commands h ⊎ IsRefused commands h
