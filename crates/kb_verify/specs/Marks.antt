-- The marks of the forward pass.
use Rattle.std.specs.Prelude.{◌≡◌, ℕ, suc, true, ◌<◌, ◌≢◌, ◌⊎◌, List, [], length, Some, Ok}
use Rattle.std.specs.Prelude.{slice_get, slice_set, slice_index_or}
use Rattle.kb_core.specs.declared.arg.Kind.{Kind}
use Rattle.kb_code.specs.declared.instr.Instr.{Instr}
use Rattle.kb_code.specs.declared.exits.Exits.{Exits}
use Rattle.kb_code.specs.declared.exits.Exits.TheVariants.{Stop, One, Two, Around, Close}
use Rattle.kb_code.specs.Blocks.{Closes}
use Rattle.kb_code.specs.Exits.{exits_of, is_exit}
use Rattle.kb_code.specs.Handler.{HandlerData}
use Rattle.kb_code.specs.Reachable.{Follows, Reachable}
use Rattle.kb_verify.specs.declared.forward.Mark.{Mark}
use Rattle.kb_verify.specs.declared.forward.Mark.TheVariants as mark
use Rattle.kb_verify.specs.Callable.{Commands}
use Rattle.kb_verify.specs.Check.{check}

abbrev pub mark_at : List Mark → ℕ → Mark
mark_at ms p = slice_index_or ms p mark.Unreached

-- this shape reached a mark, and maybe others did too
abbrev pub HasBeen : Mark → List Kind → Type 0
HasBeen m after = (m ≡ mark.Has after) ⊎ (m ≡ mark.Differs)

-- the mark after one more shape
abbrev pub Meets : Mark → List Kind → Mark → Type 0
Meets mark.Unreached after n = n ≡ mark.Has after
Meets (mark.Has before) after n =
    ((before ≡ after) × (n ≡ mark.Has before)) ⊎ ((before ≢ after) × (n ≡ mark.Differs))
Meets mark.Differs after n = n ≡ mark.Differs

-- the marks after a shape reached one place
abbrev pub FlowsTo : List Mark → ℕ → List Kind → List Mark → Type 0
FlowsTo ms to after ns = (m : Mark) × Meets (mark_at ms to) after m × (ns ≡ slice_set ms to m)

-- the marks after a shape was propagated to all exits of an instruction
abbrev pub FlowsFrom : Exits → List Mark → List Kind → List Mark → Type 0
FlowsFrom Stop ms after ns = ns ≡ ms
FlowsFrom (One q) ms after ns = FlowsTo ms q after ns
FlowsFrom (Two q r) ms after ns = (ks : List Mark) × FlowsTo ms q after ks × FlowsTo ks r after ns
FlowsFrom (Around n q) ms after ns = FlowsTo ms q after ns
FlowsFrom (Close q) ms after ns = FlowsTo ms q after ns

-- all exits are less than a size
abbrev pub AreWithin : Exits → ℕ → Type 0
AreWithin Stop size = Unit {0}
AreWithin (One q) size = q < size
AreWithin (Two q r) size = (q < size) × (r < size)
AreWithin (Around n q) size = q < size
AreWithin (Close q) size = q < size

-- a shape was sent to a place, at the start or from one of the checked places
pub data Sent (commands : Commands) (h : HandlerData) (i : ℕ) (ms : List Mark) :
    ℕ → List Kind → Type 0 where
  starts : Sent commands h i ms 0 []
  flows : {p q : ℕ} {before after : List Kind} → p < i → mark_at ms p ≡ mark.Has before →
      (f : Follows h.code p q) → check commands h p before f.instr ≡ Ok after →
      Sent commands h i ms q after

-- the shapes that were sent to a place explain its mark
abbrev pub Explains : Commands → HandlerData → ℕ → List Mark → ℕ → Mark → Type 0
Explains commands h i ms q mark.Unreached = Unit {0}
Explains commands h i ms q (mark.Has ks) = Sent commands h i ms q ks
Explains commands h i ms q mark.Differs =
    (a : List Kind) × (b : List Kind) × Sent commands h i ms q a × Sent commands h i ms q b × (a ≢ b)

-- the facts about a place that was checked
pub record Looked (commands : Commands) (h : HandlerData) (ms : List Mark) (p : ℕ) : Type 0 where
  pub before : List Kind
  pub after : List Kind
  pub instr : Instr
  pub has : mark_at ms p ≡ mark.Has before
  pub at : slice_get h.code p ≡ Some instr
  pub right : check commands h p before instr ≡ Ok after
  pub flows : (q : ℕ) → is_exit (exits_of (suc p) instr) q ≡ true → HasBeen (mark_at ms q) after
  pub turns : (q : ℕ) → Closes h.code q p → mark_at ms (suc q) ≡ mark.Has before

-- the invariant of the pass after all places below i were checked
pub record IsMarked (commands : Commands) (h : HandlerData) (i : ℕ) (ms : List Mark) : Type 0 where
  pub size : length ms ≡ length h.code
  pub root : HasBeen (mark_at ms 0) []
  pub reached : (p : ℕ) → mark_at ms p ≢ mark.Unreached → Reachable h.code p
  pub looked : (p : ℕ) → p < i → mark_at ms p ≢ mark.Unreached → Looked commands h ms p
  pub explained : (p : ℕ) → Explains commands h i ms p (mark_at ms p)

-- if the place is an `End`, it has the shape of the place after its `Repeat`, if that has one
abbrev pub ComesRound : List Instr → List Mark → ℕ → List Kind → Type 0
ComesRound code ms e ks =
    (q : ℕ) (ls : List Kind) → Closes code q e → mark_at ms (suc q) ≡ mark.Has ls → ls ≡ ks

-- the place is an `End`, and the place after its `Repeat` has another shape
pub record GoesWrong (code : List Instr) (ms : List Mark) (e : ℕ) (ks : List Kind) : Type 0 where
  pub start : ℕ
  pub shape : List Kind
  pub closes : Closes code start e
  pub has : mark_at ms (suc start) ≡ mark.Has shape
  pub other : shape ≢ ks
