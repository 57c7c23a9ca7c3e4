-- The shapes of places.
use Rattle.std.specs.Prelude.{◌≡◌, ℕ, suc, ◌<◌, List, [], length, Some, slice_get, Ok, Err}
use Rattle.kb_core.specs.declared.arg.Kind.{Kind}
use Rattle.kb_code.specs.declared.instr.Instr.{Instr}
use Rattle.kb_code.specs.Blocks.{Closes}
use Rattle.kb_code.specs.Handler.{HandlerData}
use Rattle.kb_code.specs.Reachable.{Follows, Reachable}
use Rattle.kb_verify.specs.declared.fault.Defect.{Defect}
use Rattle.kb_verify.specs.declared.fault.Defect.TheVariants as defect
use Rattle.kb_verify.specs.Callable.{Commands}
use Rattle.kb_verify.specs.Check.{check}

-- the check at a place succeeds, each following place below the bound has the resulting shape, and an `End`
-- has the shape of the place after its `Repeat`
pub record IsRightAt (commands : Commands) (h : HandlerData) (shape : ℕ → List Kind) (bound p : ℕ)
    (i : Instr) : Type 0 where
  pub after : List Kind
  pub is_right : check commands h p (shape p) i ≡ Ok after
  pub flows : (q : ℕ) → q < bound → Follows h.code p q → shape q ≡ after
  pub turns : (q : ℕ) → Closes h.code q p → shape p ≡ shape (suc q)

-- a shape for each reachable place below the bound; the first place has the empty shape
pub record HasShapesBelow (commands : Commands) (h : HandlerData) (shape : ℕ → List Kind)
    (bound : ℕ) : Type 0 where
  pub start : shape 0 ≡ []
  pub each : (p : ℕ) (i : Instr) → p < bound → Reachable h.code p → slice_get h.code p ≡ Some i →
      IsRightAt commands h shape bound p i

-- a shape for each reachable place
abbrev pub HasShapes : Commands → HandlerData → Type 0
HasShapes commands h = (shape : ℕ → List Kind) × HasShapesBelow commands h shape (length h.code)

-- a shape reaches a place: from the start, from an earlier place, or at an `End` from the place after its
-- `Repeat`, with which the next iteration begins
pub data Comes (commands : Commands) (h : HandlerData) (shape : ℕ → List Kind) :
    ℕ → List Kind → Type 0 where
  starts : Comes commands h shape 0 []
  flows : {p q : ℕ} {after : List Kind} → Reachable h.code p → (f : Follows h.code p q) →
      check commands h p (shape p) f.instr ≡ Ok after → Comes commands h shape q after
  closes : {q e : ℕ} → Closes h.code q e → suc q < e → Comes commands h shape e (shape (suc q))

-- the defect of a place: two different shapes reach it, or the check fails for the only shape that does
pub data IsWrongAt (commands : Commands) (h : HandlerData) (shape : ℕ → List Kind) (place : ℕ) :
    Defect → Type 0 where
  differ : {a b : List Kind} → Comes commands h shape place a → Comes commands h shape place b →
      (a ≡ b → ⊥) → IsWrongAt commands h shape place defect.ShapesDiffer
  fails : {ks : List Kind} {instr : Instr} {wrong : Defect} →
      ((a : List Kind) → Comes commands h shape place a → a ≡ ks) → slice_get h.code place ≡ Some instr →
      check commands h place ks instr ≡ Err wrong → IsWrongAt commands h shape place wrong

-- the first reachable place with a defect: all earlier reachable places are right
pub record IsFirstWrong (commands : Commands) (h : HandlerData) (place : ℕ) (wrong : Defect) :
    Type 0 where
  pub reachable : Reachable h.code place
  pub shape : ℕ → List Kind
  pub below : HasShapesBelow commands h shape place
  pub is_wrong : IsWrongAt commands h shape place wrong
