-- A run does not depend on its bound, so it is one step followed by a run.
use Rattle.std.proofs.Common.{◌≡◌, ◌<◌, ◌≤◌, ℕ, zero, suc, ◌-◌, Bool, true, false, List, Option, Some, None}
use Rattle.std.proofs.Common.{nat_le, refl, ap, ◌∙◌, arith, if◌then◌else◌}
use Rattle.std.specs.Prelude.{slice_get, nat_lt, ◌&&◌, length}
use Rattle.kb_core.specs.declared.arg.Arg.{Arg}
use Rattle.kb_code.specs.declared.instr.Instr.{Instr}
use Rattle.kb_code.specs.Handler.{HandlerData}
use Rattle.kb_vm.specs.declared.trap.Trap.TheVariants.{OutOfBudget, BadCode}
use Rattle.kb_code.specs.Commands.{Callee, Plain, Coded, Table, declared_by}
use Rattle.kb_code.specs.Blocks.{block_of, same_block}
use Rattle.kb_vm.specs.Effect.{Effect, Stop, Leave, Next, Goto, Open, Turn, Enter, effect}
use Rattle.kb_vm.specs.Meaning.{World, core_of, with_step, with_line, Answer, Done, Stuck, and_then, fetched}
use Rattle.kb_vm.specs.Meaning.{Runner, run_callee, resumed}
use Rattle.kb_vm.specs.Meaning.{follow, step, go, run}
use Rattle.kb_vm.specs.Position.{Position, outset, moved, passed, entered, turned}
use borrow.Author.Tests.{leb-true}

-- two runners agree for remaining budgets up to a limit
abbrev Agree : Runner → Runner → ℕ → Type 0
Agree f g limit = (h : HandlerData) (args : List Arg) (left : ℕ) (at : Position) (w : World)
    → left < limit → f h args left at w ≡ g h args left at w

and_then_same : (a : Answer) (f g : World → Answer) → ((w : World) → f w ≡ g w) → and_then a f ≡ and_then a g
and_then_same (Done w) f g e = e w
and_then_same (Stuck trap command place w) f g e = refl

module _ (f g : Runner) (limit : ℕ) (same : Agree f g limit) where
  callee_same : (callee : Callee) (args : List Arg) (w : World) → (declared_by callee).budget < limit
      → run_callee f callee args w ≡ run_callee g callee args w
  callee_same (Plain n) args w le = refl
  callee_same (Coded h) args w le = same h args h.signature.budget outset w le

  goto_same : (h : HandlerData) (args : List Arg) (left : ℕ) (at next : Position) (w : World)
      → left < limit → (b : Bool)
      → (if b then f h args left next w else Stuck BadCode h.command at.place w)
      ≡ (if b then g h args left next w else Stuck BadCode h.command at.place w)
  goto_same h args left at next w lt false = refl
  goto_same h args left at next w lt true = same h args left next w lt

  resumed_same : (h : HandlerData) (args : List Arg) (left : ℕ) (at : Position) (w : World) → left < limit
      → (next : Option Position) → resumed f h args left at w next ≡ resumed g h args left at w next
  resumed_same h args left at w lt None = refl
  resumed_same h args left at w lt (Some next) = same h args left next w lt

  enter_same : (h : HandlerData) (args : List Arg) (left : ℕ) (at : Position) (w : World) (callee : Callee)
      (given operands : List Arg) (v : World) → left < limit → (b : Bool)
      → nat_le (declared_by callee).budget left ≡ b
      → (if b then and_then (run_callee f callee given v)
      (λ u. f h args (left - (declared_by callee).budget) (passed at operands) u)
      else Stuck OutOfBudget h.command at.place w)
      ≡ (if b then and_then (run_callee g callee given v)
      (λ u. g h args (left - (declared_by callee).budget) (passed at operands) u)
      else Stuck OutOfBudget h.command at.place w)
  enter_same h args left at w callee given operands v lt false e = refl
  enter_same h args left at w callee given operands v lt true e =
      let le : (declared_by callee).budget ≤ left = leb-true _ _ e in
      ap (λ a. and_then a (λ u. f h args (left - (declared_by callee).budget) (passed at operands) u))
      (callee_same callee given v (omega arith))
      ∙ and_then_same (run_callee g callee given v) _ _
      (λ u. same h args (left - (declared_by callee).budget) (passed at operands) u (omega arith))

  follow_same : (h : HandlerData) (args : List Arg) (left : ℕ) (at : Position) (w : World) (e : Effect) → left < limit
      → follow f h args left at w e ≡ follow g h args left at w e
  follow_same h args left at w (Stop trap) lt = refl
  follow_same h args left at w Leave lt = refl
  follow_same h args left at w (Next operands) lt = same h args left (passed at operands) w lt
  follow_same h args left at w (Goto to operands) lt =
      goto_same h args left at (moved at to operands) w lt (nat_lt at.place to && same_block h.code at.place to)
  follow_same h args left at w (Open n operands) lt =
      goto_same h args left at (entered at n operands) w lt (nat_lt (length at.turns) 8)
  follow_same h args left at w (Turn operands) lt =
      resumed_same h args left at w lt (turned at.place operands (block_of h.code at.place) at.turns)
  follow_same h args left at w (Enter name callee given operands) lt =
      enter_same h args left at w callee given operands (with_line name given w) lt
      (nat_le (declared_by callee).budget left) refl

  fetched_same : (table : Table) (h : HandlerData) (args : List Arg) (at : Position) (w : World)
      (o : Option Instr) (left : ℕ) → left ≤ limit
      → fetched o left (λ trap. Stuck trap h.command at.place w) (λ instr rest.
      let e = effect table h args (core_of w) at.operands instr in
      follow f h args rest at (with_step instr rest e w) e)
      ≡ fetched o left (λ trap. Stuck trap h.command at.place w) (λ instr rest.
      let e = effect table h args (core_of w) at.operands instr in
      follow g h args rest at (with_step instr rest e w) e)
  fetched_same table h args at w None left le = refl
  fetched_same table h args at w (Some instr) zero le = refl
  fetched_same table h args at w (Some instr) (suc left) le =
      let e = effect table h args (core_of w) at.operands instr in
      follow_same h args left at (with_step instr left e w) e (omega arith)

-- any two bounds above the remaining budget give the same run
bounds_same : (table : Table) (n m : ℕ) (h : HandlerData) (args : List Arg) (left : ℕ) (at : Position)
    (w : World) → left < n → left < m → go n table h args left at w ≡ go m table h args left at w
bounds_same table zero m h args left at w lt lu = absurd (omega arith)
bounds_same table (suc n) zero h args left at w lt lu = absurd (omega arith)
bounds_same table (suc n) (suc m) h args left at w lt lu =
    fetched_same (go n table) (go m table) left
    (λ h' args' left' at' w' l.
    bounds_same table n m h' args' left' at' w' (omega arith) (omega arith))
    table h args at w (slice_get h.code at.place) left (omega arith)

-- a run is one step followed by a run
pub run_step : (table : Table) (h : HandlerData) (args : List Arg) (left : ℕ) (at : Position) (w : World)
    → run table h args left at w ≡ step table (run table) h args left at w
unfolding run
run_step table h args left at w =
    fetched_same (go left table) (λ h' args' left' at' w'.
    go (suc left') table h' args' left' at' w') left
    (λ h' args' left' at' w' l.
    bounds_same table left (suc left') h' args' left' at' w' l (omega arith))
    table h args at w (slice_get h.code at.place) left (omega arith)
