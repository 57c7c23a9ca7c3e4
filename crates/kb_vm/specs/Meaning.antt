-- The meaning of a run, defined with recursion for calls: without frames and without a count of the
-- cost.
use Rattle.std.specs.Prelude.{◌≡◌, ℕ, zero, suc, ◌-◌, nat_le, nat_lt, ◌&&◌, if◌then◌else◌}
use Rattle.std.specs.Prelude.{List, [], ◌∷◌, ◌++◌}
use Rattle.std.specs.Prelude.{length, Option, Some, None, option_map, slice_get}
use Rattle.kb_core.specs.declared.arg.Arg.{Arg}
use Rattle.kb_core.specs.declared.native.Native.{Native}
use Rattle.kb_core.specs.Core.{Core}
use Rattle.kb_core.specs.Core.{core_after}
use Rattle.kb_core.specs.Signature.{fits}
use Rattle.kb_code.specs.declared.instr.Instr.{Instr}
use Rattle.kb_code.specs.Handler.{HandlerData}
use Rattle.kb_vm.specs.declared.trap.Trap.{Trap}
use Rattle.kb_vm.specs.declared.trap.Trap.TheVariants.{WrongArgument, OutOfBudget, BadCode}
use Rattle.kb_vm.specs.CallLine.{call_line}
use Rattle.kb_code.specs.Commands.{Callee, Plain, Coded, Table, declared_by}
use Rattle.kb_code.specs.Blocks.{block_of, same_block}
use Rattle.kb_vm.specs.Effect.{Effect, Stop, Leave, Next, Goto, Open, Turn, Enter, effect}
use Rattle.kb_vm.specs.Position.{Position, outset, moved, passed, entered, turned}

-- a begun instruction: its effect, and the budget that its frame has left after it
pub record Step : Type 0 where
  pub instr : Instr
  pub left : ℕ
  pub effect : Effect

-- what happens in a run: an instruction is begun, the line of a call is written, or a native command runs
pub data Event : Type 0 where
  StepBegun : (step : Step) → Event
  LineWritten : (name : List ℕ) (args : List Arg) → Event
  NativeRun : (native : Native) (args : List Arg) → Event

-- a moment of a run: the core before the run, and what happened until this moment, the latest event first
pub record World : Type 0 where
  pub first : Core
  pub past : List Event

-- the core after what happened
abbrev pub core_after_all : Core → List Event → Core
core_after_all first [] = first
core_after_all first (NativeRun native args ∷ past) = core_after native args (core_after_all first past)
core_after_all first (StepBegun step ∷ past) = core_after_all first past
core_after_all first (LineWritten name args ∷ past) = core_after_all first past

abbrev pub core_of : World → Core
core_of w = core_after_all w.first w.past

-- the trace lines, the begun instructions and the native commands among what happened, in their order
abbrev pub lines_among : List Event → List (List ℕ)
lines_among [] = []
lines_among (LineWritten name args ∷ past) = lines_among past ++ call_line name args ∷ []
lines_among (StepBegun step ∷ past) = lines_among past
lines_among (NativeRun native args ∷ past) = lines_among past

abbrev pub steps_among : List Event → List Step
steps_among [] = []
steps_among (StepBegun step ∷ past) = steps_among past ++ step ∷ []
steps_among (LineWritten name args ∷ past) = steps_among past
steps_among (NativeRun native args ∷ past) = steps_among past

abbrev pub natives_among : List Event → List Native
natives_among [] = []
natives_among (NativeRun native args ∷ past) = natives_among past ++ native ∷ []
natives_among (StepBegun step ∷ past) = natives_among past
natives_among (LineWritten name args ∷ past) = natives_among past

abbrev pub lines_of : World → List (List ℕ)
lines_of w = lines_among w.past

abbrev pub steps_of : World → List Step
steps_of w = steps_among w.past

abbrev pub natives_of : World → List Native
natives_of w = natives_among w.past

-- the world before a run
abbrev pub first_world : Core → World
first_world core = record { first = core; past = [] }

-- the world after one more event
abbrev pub after_event : Event → World → World
after_event event w = record { first = w.first; past = event ∷ w.past }

-- the world after one more instruction was begun
abbrev pub with_step : Instr → ℕ → Effect → World → World
with_step instr left e w = after_event (StepBegun (record { instr = instr; left = left; effect = e })) w

-- the world with the line of a call, which is written before the callee runs
abbrev pub with_line : List ℕ → List Arg → World → World
with_line name args w = after_event (LineWritten name args) w

-- the world after a native was called
abbrev pub native_called : Native → List Arg → World → World
native_called native args w = after_event (NativeRun native args) w

-- the command completed, or a handler trapped: the reason, its command, and the place of its
-- instruction
pub data Answer : Type 0 where
  Done : (world : World) → Answer
  Stuck : (trap : Trap) (command : List ℕ) (place : ℕ) (world : World) → Answer

-- continues with the world after a callee that completed
abbrev pub and_then : Answer → (World → Answer) → Answer
and_then (Done w) on = on w
and_then (Stuck trap command place w) on = Stuck trap command place w

-- fetches an instruction, which costs 1
abbrev pub fetched : Option Instr → ℕ → (Trap → Answer) → (Instr → ℕ → Answer) → Answer
fetched None left stuck on = stuck BadCode
fetched (Some instr) zero stuck on = stuck OutOfBudget
fetched (Some instr) (suc left) stuck on = on instr left

-- runs a handler from a position, with arguments and a remaining budget, in a world
abbrev pub Runner : Type 0
Runner = HandlerData → List Arg → ℕ → Position → World → Answer

-- runs a callee
abbrev pub run_callee : Runner → Callee → List Arg → World → Answer
run_callee run (Plain native) args w = Done (native_called native args w)
run_callee run (Coded g) args w = run g args g.signature.budget outset w

-- continues at a position, if there is one
abbrev pub resumed : Runner → HandlerData → List Arg → ℕ → Position → World → Option Position → Answer
resumed run h args left at w None = Stuck BadCode h.command at.place w
resumed run h args left at w (Some next) = run h args left next w

-- what follows from an instruction's effect, with the remaining budget `left`; well-formed blocks never nest
-- deeper than 8
abbrev pub follow : Runner → HandlerData → List Arg → ℕ → Position → World → Effect → Answer
follow run h args left at w (Stop trap) = Stuck trap h.command at.place w
follow run h args left at w Leave = Done w
follow run h args left at w (Next operands) = run h args left (passed at operands) w
follow run h args left at w (Goto to operands) =
    if nat_lt at.place to && same_block h.code at.place to then run h args left (moved at to operands) w
    else Stuck BadCode h.command at.place w
follow run h args left at w (Open n operands) =
    if nat_lt (length at.turns) 8 then run h args left (entered at n operands) w
    else Stuck BadCode h.command at.place w
follow run h args left at w (Turn operands) =
    resumed run h args left at w (turned at.place operands (block_of h.code at.place) at.turns)
follow run h args left at w (Enter name callee given operands) =
    if nat_le (declared_by callee).budget left
    then and_then (run_callee run callee given (with_line name given w))
    (λ v. run h args (left - (declared_by callee).budget) (passed at operands) v)
    else Stuck OutOfBudget h.command at.place w

-- one instruction
abbrev pub step : Table → Runner → Runner
step table run h args left at w =
    fetched (slice_get h.code at.place) left (λ trap. Stuck trap h.command at.place w) (λ instr rest.
    let e = effect table h args (core_of w) at.operands instr in
    follow run h args rest at (with_step instr rest e w) e)

-- Runs a handler from a position. Each step takes at least 1 from the remaining budget, and the budget
-- of a callee is less than the caller's remaining budget. So a bound on steps above the remaining
-- budget is never reached.
abbrev pub go : ℕ → Table → Runner
go zero table h args left at w = Stuck OutOfBudget h.command at.place w
go (suc n) table h args left at w = step table (go n table) h args left at w

-- the same with a large enough bound
unfoldable pub run : Table → Runner
run table h args left at w = go (suc left) table h args left at w

-- a run is one instruction followed by a run, so no reader needs to trust the bound
abbrev pub RunsByStep : Type 0
RunsByStep = (table : Table) (h : HandlerData) (args : List Arg) (left : ℕ) (at : Position) (w : World)
    → run table h args left at w ≡ step table (run table) h args left at w

-- starts a live command, if the arguments fit it
abbrev pub start_callee : Table → List ℕ → Callee → List Arg → World → Answer
start_callee table name callee args w =
    if fits (declared_by callee).params args then run_callee (run table) callee args w
    else Stuck WrongArgument name 0 w

-- the start of a command, or nothing if no live command has the name
abbrev pub start_of : Table → List ℕ → List Arg → Core → Option Answer
start_of table name args core =
    option_map (λ callee. start_callee table name callee args (first_world core)) (table name)
