-- The waiting frames, and the worlds on the way to an answer.
use Rattle.std.proofs.Common.{◌≡◌, ℕ, zero, suc, ◌-◌, Bool, true, false, List, [], ◌∷◌, ◌++◌, Option}
use Rattle.std.proofs.Common.{Some, None}
use Rattle.std.proofs.Common.{nat_le, refl, sym, ap, ◌∙◌, if◌then◌else◌, append_assoc}
use Rattle.std.specs.Prelude.{slice_get, nat_lt, ◌&&◌, length}
use Rattle.kb_core.specs.declared.arg.Arg.{Arg}
use Rattle.kb_core.specs.declared.native.Native.{Native}
use Rattle.kb_code.specs.declared.instr.Instr.{Instr}
use Rattle.kb_code.specs.Handler.{HandlerData}
use Rattle.kb_vm.specs.declared.machine.Frame.{Frame}
use Rattle.kb_vm.specs.declared.machine.Machine.{Machine}
use Rattle.kb_vm.specs.declared.trap.Trap.{Trap}
use Rattle.kb_vm.specs.declared.trap.Trap.TheVariants.{OutOfBudget, BadCode}
use Rattle.kb_code.specs.Commands.{Callee, Plain, Coded, Table, declared_by}
use Rattle.kb_code.specs.Blocks.{block_of, same_block}
use Rattle.kb_vm.specs.Effect.{Effect, Stop, Leave, Next, Goto, Open, Turn, Enter, effect}
use Rattle.kb_vm.specs.Meaning.{Event, StepBegun, LineWritten, NativeRun, World, core_of, after_event}
use Rattle.kb_vm.specs.Meaning.{with_step, with_line, native_called, Answer, Done, Stuck}
use Rattle.kb_vm.specs.Meaning.{and_then, fetched}
use Rattle.kb_vm.specs.Meaning.{Runner, run_callee, resumed, follow, go, run}
use Rattle.kb_vm.specs.Outcome.{world_of, Precedes}
use Rattle.kb_vm.specs.Position.{Position, outset, moved, passed, entered, turned}
use Rattle.kb_vm.specs.State.{resume, finish, position_of, rest, rest_of, after_native, after_coded}

pub finish_more : (table : Table) (fs : List Frame) (f : Frame) (a : Answer)
    → finish table (fs ++ f ∷ []) a ≡ finish table fs (and_then a (resume table f))
finish_more table [] f a = refl
finish_more table (g ∷ fs) f a = ap (λ b. and_then b (resume table g)) (finish_more table fs f a)

pub finish_stuck : (table : Table) (fs : List Frame) (trap : Trap) (command : List ℕ) (place : ℕ) (w : World)
    → finish table fs (Stuck trap command place w) ≡ Stuck trap command place w
finish_stuck table [] trap command place w = refl
finish_stuck table (g ∷ fs) trap command place w =
    ap (λ b. and_then b (resume table g)) (finish_stuck table fs trap command place w)

pub precedes_same : (w : World) → Precedes w w
precedes_same w = record { first = refl; past = ([], refl) }

precedes_on : (u v w : World) → Precedes u v → Precedes v w → Precedes u w
precedes_on u v w p q = record {
  first = q.first ∙ p.first;
  past = (
    q.past.0 ++ p.past.0,
    q.past.1 ∙ ap (λ past. q.past.0 ++ past) p.past.1 ∙ sym (append_assoc q.past.0 p.past.0 u.past),
  );
}

-- a world precedes each one after a further event
precedes_event : (event : Event) (w : World) → Precedes w (after_event event w)
precedes_event event w = record { first = refl; past = (event ∷ [], refl) }

precedes_line : (name : List ℕ) (args : List Arg) (w : World) → Precedes w (with_line name args w)
precedes_line name args w = precedes_event (LineWritten name args) w

precedes_step : (instr : Instr) (left : ℕ) (e : Effect) (w : World) → Precedes w (with_step instr left e w)
precedes_step instr left e w = precedes_event (StepBegun (record { instr = instr; left = left; effect = e })) w

pub precedes_native : (n : Native) (args : List Arg) (w : World) → Precedes w (native_called n args w)
precedes_native n args w = precedes_event (NativeRun n args) w

-- a runner keeps what happened before
abbrev Keeps : Runner → Type 0
Keeps f = (h : HandlerData) (args : List Arg) (left : ℕ) (at : Position) (w : World)
    → Precedes w (world_of (f h args left at w))

and_then_keeps : (a : Answer) (on : World → Answer) (x : World)
    → ((v : World) → Precedes v (world_of (on v))) → Precedes x (world_of a)
    → Precedes x (world_of (and_then a on))
and_then_keeps (Done v) on x keeps p = precedes_on x v (world_of (on v)) p (keeps v)
and_then_keeps (Stuck trap command place v) on x keeps p = p

module _ (f : Runner) (keeps : Keeps f) where
  callee_keeps : (callee : Callee) (args : List Arg) (w : World)
      → Precedes w (world_of (run_callee f callee args w))
  callee_keeps (Plain n) args w = precedes_native n args w
  callee_keeps (Coded h) args w = keeps h args h.signature.budget outset w

  goto_keeps : (h : HandlerData) (args : List Arg) (left : ℕ) (at next : Position) (w : World) (b : Bool)
      → Precedes w (world_of (if b then f h args left next w else Stuck BadCode h.command at.place w))
  goto_keeps h args left at next w false = precedes_same w
  goto_keeps h args left at next w true = keeps h args left next w

  resumed_keeps : (h : HandlerData) (args : List Arg) (left : ℕ) (at : Position) (w : World)
      (next : Option Position) → Precedes w (world_of (resumed f h args left at w next))
  resumed_keeps h args left at w None = precedes_same w
  resumed_keeps h args left at w (Some next) = keeps h args left next w

  enter_keeps : (h : HandlerData) (args : List Arg) (left : ℕ) (at : Position) (w : World) (name : List ℕ) (callee : Callee)
      (given operands : List Arg) (b : Bool)
      → Precedes w (world_of (if b then and_then (run_callee f callee given (with_line name given w))
      (λ u. f h args (left - (declared_by callee).budget) (passed at operands) u)
      else Stuck OutOfBudget h.command at.place w))
  enter_keeps h args left at w name callee given operands false = precedes_same w
  enter_keeps h args left at w name callee given operands true =
      and_then_keeps (run_callee f callee given (with_line name given w)) _ w
      (λ u. keeps h args (left - (declared_by callee).budget) (passed at operands) u)
      (precedes_on w (with_line name given w) _ (precedes_line name given w)
      (callee_keeps callee given (with_line name given w)))

  pub follow_keeps : (h : HandlerData) (args : List Arg) (left : ℕ) (at : Position) (w : World) (e : Effect)
      → Precedes w (world_of (follow f h args left at w e))
  follow_keeps h args left at w (Stop trap) = precedes_same w
  follow_keeps h args left at w Leave = precedes_same w
  follow_keeps h args left at w (Next operands) = keeps h args left (passed at operands) w
  follow_keeps h args left at w (Goto to operands) =
      goto_keeps h args left at (moved at to operands) w (nat_lt at.place to && same_block h.code at.place to)
  follow_keeps h args left at w (Open n operands) =
      goto_keeps h args left at (entered at n operands) w (nat_lt (length at.turns) 8)
  follow_keeps h args left at w (Turn operands) =
      resumed_keeps h args left at w (turned at.place operands (block_of h.code at.place) at.turns)
  follow_keeps h args left at w (Enter name callee given operands) =
      enter_keeps h args left at w name callee given operands (nat_le (declared_by callee).budget left)

  fetched_keeps : (table : Table) (h : HandlerData) (args : List Arg) (at : Position) (w : World)
      (o : Option Instr) (left : ℕ)
      → Precedes w (world_of (fetched o left (λ trap. Stuck trap h.command at.place w) (λ instr rest.
      let e = effect table h args (core_of w) at.operands instr in
      follow f h args rest at (with_step instr rest e w) e)))
  fetched_keeps table h args at w None left = precedes_same w
  fetched_keeps table h args at w (Some instr) zero = precedes_same w
  fetched_keeps table h args at w (Some instr) (suc left) =
      let e = effect table h args (core_of w) at.operands instr in
      precedes_on w (with_step instr left e w) _ (precedes_step instr left e w)
      (follow_keeps h args left at (with_step instr left e w) e)

go_keeps : (table : Table) (n : ℕ) → Keeps (go n table)
go_keeps table zero = λ h args left at w. precedes_same w
go_keeps table (suc n) = λ h args left at w.
    fetched_keeps (go n table) (go_keeps table n) table h args at w (slice_get h.code at.place) left

pub run_keeps : (table : Table) → Keeps (run table)
unfolding run
run_keeps table = λ h args left at w. go_keeps table (suc left) h args left at w

resume_keeps : (table : Table) (f : Frame) (v : World) → Precedes v (world_of (resume table f v))
resume_keeps table f v = run_keeps table f.handler f.args f.left (position_of f) v

pub finish_keeps : (table : Table) (fs : List Frame) (a : Answer) (x : World)
    → Precedes x (world_of a) → Precedes x (world_of (finish table fs a))
finish_keeps table [] a x p = p
finish_keeps table (f ∷ fs) a x p =
    and_then_keeps (finish table fs a) (resume table f) x (resume_keeps table f) (finish_keeps table fs a x p)

-- the rest of a run keeps what happened before
rest_keeps : (table : Table) (m : Machine) (w : World) → Precedes w (world_of (rest table m w))
rest_keeps table m w = finish_keeps table m.callers _ w (resume_keeps table m.frame w)

pub native_keeps : (table : Table) (m : Machine) (n : Native) (args : List Arg) (w : World)
    → Precedes w (world_of (after_native table m n args w))
native_keeps table m n args w =
    precedes_on w (native_called n args w) _ (precedes_native n args w) (rest_keeps table m (native_called n args w))

pub coded_keeps : (table : Table) (m : Machine) (h : HandlerData) (args : List Arg) (w : World)
    → Precedes w (world_of (after_coded table m h args w))
coded_keeps table m h args w =
    finish_keeps table m.callers _ w
    (and_then_keeps (run table h args h.signature.budget outset w) (resume table m.frame) w
    (resume_keeps table m.frame) (run_keeps table h args h.signature.budget outset w))

pub rest_of_keeps : (table : Table) (m : Machine) (e : Effect) (w : World)
    → Precedes w (world_of (rest_of table m e w))
rest_of_keeps table m e w =
    finish_keeps table m.callers _ w
    (follow_keeps (run table) (run_keeps table) m.frame.handler m.frame.args m.frame.left (position_of m.frame) w e)

pub at_outset : (turns : List ℕ) (operands : List Arg) → turns ≡ [] → operands ≡ []
    → record { place = 0; turns = turns; operands = operands } ≡ outset
at_outset turns operands t o =
    ap (λ ts. record { place = 0; turns = ts; operands = operands }) t
    ∙ ap (λ os. record { place = 0; turns = []; operands = os }) o

-- a handler is entered, and its caller waits
pub coded_rest : (table : Table) (m : Machine) (h : HandlerData) (args : List Arg) (w : World) (fs : List Frame)
    (left : ℕ) (at : Position) → fs ≡ m.callers ++ m.frame ∷ [] → left ≡ h.signature.budget → at ≡ outset
    → after_coded table m h args w ≡ finish table fs (run table h args left at w)
coded_rest table m h args w fs left at e l o =
    sym (finish_more table m.callers m.frame (run table h args h.signature.budget outset w))
    ∙ ap (λ gs. finish table gs (run table h args h.signature.budget outset w)) (sym e)
    ∙ ap (λ n. finish table fs (run table h args n outset w)) (sym l)
    ∙ ap (λ p. finish table fs (run table h args left p w)) (sym o)
