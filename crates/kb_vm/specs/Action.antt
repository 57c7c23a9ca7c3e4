-- How the results of the machine's functions for one instruction match its effect.
use Rattle.std.specs.Prelude.{◌≡◌, ◌≤◌, ℕ, List, Bool, true, false, length, drop}
use Rattle.kb_core.specs.declared.arg.Arg.{Arg}
use Rattle.kb_core.specs.Signature.{fits}
use Rattle.kb_code.specs.declared.instr.Instr.{Instr}
use Rattle.kb_vm.specs.declared.action.Action.{Action}
use Rattle.kb_vm.specs.declared.action.Action.TheVariants as action
use Rattle.kb_vm.specs.declared.action.Called.{Called}
use Rattle.kb_vm.specs.declared.action.Called.TheVariants as called
use Rattle.kb_code.specs.Commands.{Callee, Plain, Coded, Table, IsLive, declared_by}
use Rattle.kb_vm.specs.Memory.{makes_text}
use Rattle.kb_vm.specs.Effect.{Effect, Stop, Leave, Next, Goto, Open, Turn, Enter, topmost}
use Rattle.kb_code.specs.Found.{callee_of}

-- the number of arguments of a command
abbrev pub arity : Callee → ℕ
arity callee = length (declared_by callee).params

-- an action and the operands after it match the effect of an instruction other than a call
abbrev pub Does : Effect → Action → List Arg → Type 0
Does e (action.Stop trap) operands = e ≡ Stop trap
Does e action.Leave operands = e ≡ Leave
Does e action.Next operands = e ≡ Next operands
Does e (action.Goto to) operands = e ≡ Goto to operands
Does e (action.Open n) operands = e ≡ Open n operands
Does e action.Turn operands = e ≡ Turn operands

-- the result of a call instruction matches its effect; the arguments are still on the stack
abbrev pub Calls : Effect → Called → List Arg → Type 0
Calls e (called.Stop trap) operands = e ≡ Stop trap
Calls e (called.Enter name found) operands =
    let callee = callee_of found in
    e ≡ Enter name.now callee (topmost (arity callee) operands) (drop (arity callee) operands)

-- a native that was found is live
abbrev pub IsCallable : Table → Callee → Type 0
IsCallable table (Plain native) = IsLive table native
IsCallable table (Coded handler) = Unit {0}

-- the stack has arguments for a callee, and they fit it
pub record HasArguments (callee : Callee) (operands : List Arg) : Type 0 where
  pub enough : arity callee ≤ length operands
  pub fit : fits (declared_by callee).params (topmost (arity callee) operands) ≡ true

-- the command that is entered is live, and the stack has arguments for it
abbrev pub IsReady : Table → Called → List Arg → Type 0
IsReady table (called.Stop trap) operands = Unit {0}
IsReady table (called.Enter name found) operands =
    IsCallable table (callee_of found) × HasArguments (callee_of found) operands

abbrev pub is_stop : Effect → Bool
is_stop (Stop trap) = true
is_stop _ = false

-- memory is refused only to an instruction that creates a text, and only if it doesn't trap
pub record MayLackMemory (instr : Instr) (e : Effect) : Type 0 where
  pub asks : makes_text instr ≡ true
  pub goes_on : is_stop e ≡ false
