-- The effect of one instruction that its frame can pay for.
use Rattle.std.specs.Prelude.{ℕ, true, false, nat_lt, if◌then◌else◌, List, [], ◌∷◌, length}
use Rattle.std.specs.Prelude.{reverse, take, drop}
use Rattle.std.specs.Prelude.{Option, Some, None, option_map, slice_get, pos}
use Rattle.std.specs.FinMap as fin_map
use Rattle.kb_context.specs.Scopes.{context}
use Rattle.kb_core.specs.declared.arg.Arg.{Arg}
use Rattle.kb_core.specs.declared.arg.Arg.TheVariants.{Text, Number, Truth}
use Rattle.kb_core.specs.Core.{Core}
use Rattle.kb_core.specs.Signature.{fits}
use Rattle.kb_code.specs.declared.instr.Instr.{Instr}
use Rattle.kb_code.specs.declared.instr.Instr.TheVariants as i
use Rattle.kb_code.specs.Handler.{HandlerData}
use Rattle.kb_vm.specs.declared.trap.Trap.{Trap}
use Rattle.kb_vm.specs.declared.trap.Trap.TheVariants.{MissingOperand, UnknownCommand, WrongArgument}
use Rattle.kb_vm.specs.declared.trap.Trap.TheVariants.{TooDeep, BadCode}
use Rattle.kb_vm.specs.declared.values.One.{One}
use Rattle.kb_vm.specs.declared.values.One.TheVariants as one
use Rattle.kb_vm.specs.declared.values.Two.{Two}
use Rattle.kb_vm.specs.declared.values.Two.TheVariants as two
use Rattle.kb_code.specs.Commands.{Callee, Table, declared_by}
use Rattle.kb_vm.specs.Values.{size_of, one_of, two_of, context_arg}

-- it traps, returns, continues at the next place or at another one, opens a block of so many iterations, ends
-- an iteration, or enters a command
pub data Effect : Type 0 where
  Stop : (trap : Trap) → Effect
  Leave : Effect
  Next : (operands : List Arg) → Effect
  Goto : (place : ℕ) (operands : List Arg) → Effect
  Open : (turns : ℕ) (operands : List Arg) → Effect
  Turn : (operands : List Arg) → Effect
  Enter : (name : List ℕ) (callee : Callee) (args : List Arg) (operands : List Arg) → Effect

-- push an operand, unless the stack already has 64
abbrev pub pushed : Arg → List Arg → Effect
pushed v operands = if nat_lt (length operands) 64 then Next (v ∷ operands) else Stop BadCode

-- push the value at an index, if there is one
abbrev pub pushed_at : Option Arg → List Arg → Effect
pushed_at None operands = Stop BadCode
pushed_at (Some v) operands = pushed v operands

abbrev pub pushed_context : Core → Option (List ℕ) → List Arg → Effect
pushed_context core None operands = Stop BadCode
pushed_context core (Some key) operands =
    pushed (context_arg (fin_map.get (context core.scopes) key)) operands

abbrev pub dropped : List Arg → Effect
dropped [] = Stop MissingOperand
dropped (x ∷ operands) = Next operands

abbrev pub doubled : List Arg → Effect
doubled [] = Stop MissingOperand
doubled (x ∷ operands) = pushed x (x ∷ operands)

abbrev pub swapped : List Arg → Effect
swapped (y ∷ x ∷ operands) = Next (x ∷ y ∷ operands)
swapped _ = Stop MissingOperand

-- push the result, in place of the operands that were popped
abbrev pub made : Option Arg → List Arg → Effect
made None operands = Stop WrongArgument
made (Some v) operands = Next (v ∷ operands)

abbrev pub with_one : One → List Arg → Effect
with_one what [] = Stop MissingOperand
with_one what (x ∷ operands) = made (one_of what x) operands

abbrev pub with_two : Two → List Arg → Effect
with_two what (y ∷ x ∷ operands) = made (two_of what x y) operands
with_two what _ = Stop MissingOperand

abbrev pub branched : ℕ → List Arg → Effect
branched to [] = Stop MissingOperand
branched to (Truth true ∷ operands) = Next operands
branched to (Truth false ∷ operands) = Goto to operands
branched to (Text text ∷ operands) = Stop WrongArgument
branched to (Number n ∷ operands) = Stop WrongArgument

-- the n topmost operands, in the order in which they were pushed
abbrev pub topmost : ℕ → List Arg → List Arg
topmost n operands = reverse (take n operands)

-- a call of a live command from a handler with this declared depth
abbrev pub entered : ℕ → List ℕ → Callee → List Arg → Effect
entered depth name callee operands =
    let n = length (declared_by callee).params in
    if nat_lt (length operands) n then Stop MissingOperand else
    (if fits (declared_by callee).params (topmost n operands) then
    (if nat_lt (declared_by callee).depth depth then Enter name callee (topmost n operands) (drop n operands)
    else Stop TooDeep) else Stop WrongArgument)

abbrev pub entered_live : ℕ → List ℕ → Option Callee → List Arg → Effect
entered_live depth name None operands = Stop UnknownCommand
entered_live depth name (Some callee) operands = entered depth name callee operands

-- a call of the name at an index
abbrev pub called : Table → ℕ → Option (List ℕ) → List Arg → Effect
called table depth None operands = Stop UnknownCommand
called table depth (Some name) operands = entered_live depth name (table name) operands

-- the effect of an instruction; the topmost operand is first
abbrev pub effect : Table → HandlerData → List Arg → Core → List Arg → Instr → Effect
effect table h args core operands i.Return = Leave
effect table h args core operands (i.Text n) = pushed_at (option_map Text (slice_get h.texts n)) operands
effect table h args core operands (i.Num n) = pushed (Number (pos n)) operands
effect table h args core operands (i.Truth truth) = pushed (Truth truth) operands
effect table h args core operands (i.Arg n) = pushed_at (slice_get args n) operands
effect table h args core operands i.Drop = dropped operands
effect table h args core operands i.Dup = doubled operands
effect table h args core operands i.Swap = swapped operands
effect table h args core operands i.Add = with_two two.Add operands
effect table h args core operands i.Sub = with_two two.Sub operands
effect table h args core operands i.Less = with_two two.Less operands
effect table h args core operands i.Same = with_two two.Same operands
effect table h args core operands i.Not = with_one one.Not operands
effect table h args core operands i.Join = with_two two.Join operands
effect table h args core operands i.Show = with_one one.Show operands
effect table h args core operands i.Size = with_one one.Size operands
effect table h args core operands i.IsTrue = with_one one.IsTrue operands
effect table h args core operands i.Number = with_one one.AsNumber operands
effect table h args core operands (i.Jump to) = Goto to operands
effect table h args core operands (i.JumpIfFalse to) = branched to operands
effect table h args core operands (i.Call n) = called table h.signature.depth (slice_get h.calls n) operands
effect table h args core operands (i.Context n) = pushed_context core (slice_get h.texts n) operands
effect table h args core operands i.Before = pushed (Number (pos (size_of core.buffer.before))) operands
effect table h args core operands i.After = pushed (Number (pos (size_of core.buffer.after))) operands
effect table h args core operands (i.Repeat n) = Open n operands
effect table h args core operands i.End = Turn operands
