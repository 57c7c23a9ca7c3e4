-- The meaning of the machine's state: the rest of the run.
use Rattle.std.specs.Prelude.{◌≡◌, ℕ, zero, suc, ◌+◌, ◌-◌, ◌≤◌, ◌<◌, ◌^◌, Bool, true, false, List}
use Rattle.std.specs.Prelude.{[], ◌∷◌, sum_by}
use Rattle.std.specs.Prelude.{nat_lt, ◌&&◌, if◌then◌else◌, Option, Some, None, Result, Ok, Err, length, drop}
use Rattle.std.specs.Prelude.{slice_get}
use Rattle.kb_core.specs.declared.arg.Arg.{Arg}
use Rattle.kb_core.specs.declared.native.Native.{Native}
use Rattle.kb_core.specs.Core.{Core}
use Rattle.kb_code.specs.declared.instr.Instr.{Instr}
use Rattle.kb_code.specs.Blocks.{block_of, same_block}
use Rattle.kb_code.specs.Handler.{HandlerData}
use Rattle.kb_base.specs.Reading.{or_fault}
use Rattle.kb_vm.specs.declared.action.Action.{Action}
use Rattle.kb_vm.specs.declared.action.Action.TheVariants as action
use Rattle.kb_vm.specs.declared.trap.Trap.{Trap}
use Rattle.kb_vm.specs.declared.trap.Trap.TheVariants.{OutOfBudget, BadCode}
use Rattle.kb_vm.specs.declared.machine.Frame.{Frame}
use Rattle.kb_vm.specs.declared.machine.Machine.{Machine}
use Rattle.kb_vm.specs.declared.machine.Pause.{Pause}
use Rattle.kb_vm.specs.declared.machine.Pause.TheVariants as pause
use Rattle.kb_vm.specs.declared.machine.Paused.{Paused}
use Rattle.kb_vm.specs.declared.machine.Turn.{Turn}
use Rattle.kb_vm.specs.declared.machine.Turn.TheVariants as turn
use Rattle.kb_code.specs.Commands.{Callee, Table, declared_by}
use Rattle.kb_vm.specs.Effect.{Effect, Enter, called, topmost}
use Rattle.kb_vm.specs.Meaning.{World, core_of, lines_of, steps_of, natives_of}
use Rattle.kb_vm.specs.Meaning.{Answer, Done, Stuck, and_then, run, follow, native_called}
use Rattle.kb_vm.specs.Memory.{RefusedLast, goes_on}
use Rattle.kb_vm.specs.Outcome.{Shows, Precedes, world_of}
use Rattle.kb_vm.specs.Position.{Position, standing, outset, moved, passed, entered, turned}

-- the position of a frame
abbrev pub position_of : Frame → Position
position_of f = record { place = f.place; turns = f.turns; operands = f.operands }

-- the rest of a frame's run
abbrev pub resume : Table → Frame → World → Answer
resume table f w = run table f.handler f.args f.left (position_of f) w

-- the answer of the outermost waiting frame, from the innermost callee's answer; the outermost frame is
-- first
abbrev pub finish : Table → List Frame → Answer → Answer
finish table [] a = a
finish table (f ∷ fs) a = and_then (finish table fs a) (resume table f)

-- the rest of a machine's run
abbrev pub rest : Table → Machine → World → Answer
rest table m w = finish table m.callers (resume table m.frame w)

-- the remaining budget of all frames
abbrev pub credit : Machine → ℕ
credit m = m.frame.left + sum_by (λ f. f.left) m.callers

-- a turn of the machine preserves the answer of the run
abbrev pub TurnedFrom : Table → Answer → Turn → Type 0
TurnedFrom table a (turn.On n) = (v : World) × Shows v n.core n.lines n.spent × (a ≡ rest table n v)
TurnedFrom table a (turn.Ended n) = (v : World) × Shows v n.core n.lines n.spent × (a ≡ Done v)
TurnedFrom table a (turn.Trapped n trap) =
    (v : World) × Shows v n.core n.lines n.spent × (a ≡ Stuck trap n.frame.handler.command n.frame.place v)
TurnedFrom table a (turn.NoMemory n) =
    (v : World) × Shows v n.core n.lines n.spent × Precedes v (world_of a) × RefusedLast v

-- the same for each world that matches the machine
abbrev pub Turned : Table → Machine → Turn → Type 0
Turned table m t = (w : World) → Shows w m.core m.lines m.spent → TurnedFrom table (rest table m w) t

-- the sum of the cost and the remaining budget doesn't grow
abbrev pub Spends : Machine → Machine → Type 0
Spends m n = n.spent + credit n ≤ m.spent + credit m

abbrev pub Pays : Machine → Turn → Type 0
Pays m (turn.On n) = Spends m n × (credit n < credit m)
Pays m (turn.Ended n) = Spends m n
Pays m (turn.Trapped n trap) = Spends m n
Pays m (turn.NoMemory n) = Spends m n

-- the answer of an effect, for the frame of a machine and its callers
abbrev pub rest_of : Table → Machine → Effect → World → Answer
rest_of table m e w =
    finish table m.callers
    (follow (run table) m.frame.handler m.frame.args m.frame.left (position_of m.frame) w e)

-- the rest of the run after a call of a native
abbrev pub after_native : Table → Machine → Native → List Arg → World → Answer
after_native table m native args w = rest table m (native_called native args w)

-- the rest of the run after a call of a handler
abbrev pub after_coded : Table → Machine → HandlerData → List Arg → World → Answer
after_coded table m h args w =
    finish table m.callers
    (and_then (run table h args h.signature.budget outset w) (resume table m.frame))

-- the rest of the run after a call with the topmost operands
abbrev pub after_call : Table → Machine → List ℕ → Callee → World → Answer
after_call table m name callee w =
    let n = length (declared_by callee).params in
    let operands = m.frame.operands in
    rest_of table m (Enter name callee (topmost n operands) (drop n operands)) w

-- the cost of a turn whose callee may cost up to `most`
abbrev pub PaysFrom : ℕ → Machine → Turn → Type 0
PaysFrom most m (turn.On n) =
    (n.spent + credit n ≤ m.spent + credit m + most) × (credit n ≤ credit m + most)
PaysFrom most m (turn.Ended n) = n.spent + credit n ≤ m.spent + credit m + most
PaysFrom most m (turn.Trapped n trap) = n.spent + credit n ≤ m.spent + credit m + most
PaysFrom most m (turn.NoMemory n) = n.spent + credit n ≤ m.spent + credit m + most

-- the instruction that a frame can pay for, or the trap
abbrev pub fetched_at : Option Instr → ℕ → Result Instr Trap
fetched_at None left = Err BadCode
fetched_at (Some instr) zero = Err OutOfBudget
fetched_at (Some instr) (suc left) = Ok instr

-- whether the effect calls a command
abbrev pub is_enter : Effect → Bool
is_enter (Enter name callee args operands) = true
is_enter _ = false

-- memory may be refused at the last step, if it calls a command and the remaining budget is large
-- enough
abbrev pub CallMayBeRefused : ℕ → Effect → World → Type 0
CallMayBeRefused left e w = is_enter e ≡ true → goes_on left e ≡ true → RefusedLast w

-- the effect of a call at an index of the running handler's list of calls
abbrev pub called_by : Table → Machine → ℕ → Effect
called_by table m index =
    let h = m.frame.handler in
    called table h.signature.depth (slice_get h.calls index) m.frame.operands

-- exactly n instructions are begun between the worlds, and nothing else happens
pub record Begun (n : ℕ) (w v : World) : Type 0 where
  pub core : core_of v ≡ core_of w
  pub lines : lines_of v ≡ lines_of w
  pub natives : natives_of v ≡ natives_of w
  pub steps : length (steps_of v) ≡ length (steps_of w) + n

-- a pause of a frame preserves the answer of the run
abbrev pub PausedFrom : Table → HandlerData → List Arg → Position → Answer → World → ℕ → Pause → Type 0
PausedFrom table h args at a v left (pause.Stop trap) = a ≡ Stuck trap h.command at.place v
PausedFrom table h args at a v left pause.Leave = a ≡ Done v
PausedFrom table h args at a v left (pause.Call index) =
    let e = called table h.signature.depth (slice_get h.calls index) at.operands in
    CallMayBeRefused left e v × (a ≡ follow (run table) h args left at v e)
PausedFrom table h args at a v left pause.NoMemory = Precedes v (world_of a) × RefusedLast v

-- a run of a frame from a position to its pause, with the open blocks and the operands there, for all tables
-- of live commands
abbrev pub Pauses : HandlerData → List Arg → Core → Position → ℕ → List ℕ → List Arg → Paused → Type 0
Pauses h args core at left turns operands p =
    (table : Table) (w : World) → core_of w ≡ core → (v : World) × Begun (left - p.left) w v
    × PausedFrom table h args (standing p.place turns operands) (run table h args left at w) v p.left p.why

-- the position after an action in code, by the position with the operands after it, or the reason for a pause
abbrev pub next_of : List Instr → Position → Action → Result Position Pause
next_of code at (action.Stop trap) = Err (pause.Stop trap)
next_of code at action.Leave = Err pause.Leave
next_of code at action.Next = Ok (passed at at.operands)
next_of code at (action.Goto to) =
    if nat_lt at.place to && same_block code at.place to then Ok (moved at to at.operands)
    else Err (pause.Stop BadCode)
next_of code at (action.Open n) =
    if nat_lt (length at.turns) 8 then Ok (entered at n at.operands) else Err (pause.Stop BadCode)
next_of code at action.Turn =
    or_fault (pause.Stop BadCode) (turned at.place at.operands (block_of code at.place) at.turns)

-- an instruction at which a frame pauses was paid for
abbrev pub IsPaid : ℕ → ℕ → ℕ → Pause → Type 0
IsPaid before place left (pause.Stop trap) = Unit {0}
IsPaid before place left pause.Leave = left < before
IsPaid before place left (pause.Call index) = (left < before) × (place + 1 < 2 ^ 64)
IsPaid before place left pause.NoMemory = left < before

-- the machine at the start of a handler
pub record Begins (h : HandlerData) (args : List Arg) (core : Core) (m : Machine) : Type 0 where
  pub handler_is : m.frame.handler ≡ h
  pub args_are : m.frame.args ≡ args
  pub at_outset : position_of m.frame ≡ outset
  pub whole_budget : m.frame.left ≡ h.signature.budget
  pub no_callers : m.callers ≡ []
  pub core_is : m.core ≡ core
  pub no_lines : m.lines ≡ []
  pub nothing_spent : m.spent ≡ 0
