-- Reachability of places, and the calls at reachable places.
use Rattle.std.specs.Prelude.{◌≡◌, ◌<◌, ℕ, suc, true, List, [], ◌∷◌, ◌++◌, length, Some, slice_get}
use Rattle.kb_code.specs.declared.instr.Instr.{Instr}
use Rattle.kb_code.specs.declared.instr.Instr.TheVariants.{Call}
use Rattle.kb_code.specs.Blocks.{Closes, is_inside}
use Rattle.kb_code.specs.Exits.{exits_of, is_exit}
use Rattle.kb_code.specs.Handler.{HandlerData}

-- the instruction at a place can continue at a later place of the code: the next one, or one of the same
-- block
pub record Follows (code : List Instr) (p q : ℕ) : Type 0 where
  pub instr : Instr
  pub at : slice_get code p ≡ Some instr
  pub exit : is_exit (exits_of (suc p) instr) q ≡ true
  pub inside : is_inside code p q ≡ true
  pub later : p < q
  pub within : q < length code

-- the first place is reachable, and so is each place that follows a reachable one
pub data Reachable (code : List Instr) : ℕ → Type 0 where
  first : 0 < length code → Reachable code 0
  onward : {p q : ℕ} → Reachable code p → Follows code p q → Reachable code q

-- a call at a reachable place, with an index in the list of calls
pub record Calls (h : HandlerData) (p n : ℕ) : Type 0 where
  pub reached : Reachable h.code p
  pub at : slice_get h.code p ≡ Some (Call n)
  pub named : n < length h.calls

-- the calls below a place: one index for each, in order of place
pub data CalleesBelow (h : HandlerData) : ℕ → List ℕ → Type 0 where
  none : CalleesBelow h 0 []
  called : {p n : ℕ} {ns : List ℕ} → CalleesBelow h p ns → Calls h p n → CalleesBelow h (suc p) (ns ++ n ∷ [])
  passed : {p : ℕ} {ns : List ℕ} → CalleesBelow h p ns → ((n : ℕ) → Calls h p n → ⊥) →
      CalleesBelow h (suc p) ns

-- the place after a `Repeat` is reachable if the `End` of its block is, so an `End` that goes back makes no
-- other place reachable
abbrev pub EndAddsNone : Type 0
EndAddsNone = (code : List Instr) (q e : ℕ) → Closes code q e → Reachable code e → Reachable code (suc q)
