-- The check of one instruction. A shape lists the kinds of the operands on the stack, the topmost
-- first.
use Rattle.std.specs.Prelude.{ℕ, suc, Bool, true, false, nat_lt, nat_le, ◌&&◌, if◌then◌else◌, ⊤}
use Rattle.std.specs.Prelude.{List, [], ◌∷◌, length, reverse, take, drop}
use Rattle.std.specs.Prelude.{Option, Some, None, slice_get, Result, Ok, Err}
use Rattle.kb_base.specs.Reading.{◌>>=◌, ◌>>◌, seen, unless, guard}
use Rattle.kb_core.specs.declared.arg.Kind.{Kind}
use Rattle.kb_core.specs.declared.arg.Kind.TheVariants as kind
use Rattle.kb_core.specs.declared.parameter.Param.{Param}
use Rattle.kb_core.specs.Declaration.{Declaration}
use Rattle.kb_code.specs.declared.instr.Instr.{Instr}
use Rattle.kb_code.specs.declared.instr.Instr.TheVariants as i
use Rattle.kb_code.specs.Blocks.{same_block}
use Rattle.kb_code.specs.Handler.{HandlerData}
use Rattle.kb_verify.specs.declared.fault.Defect.{Defect}
use Rattle.kb_verify.specs.declared.fault.Defect.TheVariants as defect
use Rattle.kb_verify.specs.Callable.{Commands, declaration_at}

-- whether a parameter of the first kind accepts an operand of the second
abbrev pub takes : Kind → Kind → Bool
takes kind.Any k = true
takes kind.Text kind.Text = true
takes kind.Number kind.Number = true
takes kind.Truth kind.Truth = true
takes _ _ = false

-- whether each parameter accepts its argument
abbrev pub takes_each : List Param → List Kind → Bool
takes_each [] [] = true
takes_each (p ∷ ps) (k ∷ ks) = takes p.kind k && takes_each ps ks
takes_each _ _ = false

-- a shape or a defect
abbrev pub Checked : Type 0
Checked = Result (List Kind) Defect

-- push a kind, if the text or parameter of the index exists
abbrev pub with_text : Option (List ℕ) → Kind → List Kind → Checked
with_text None k ks = Err defect.WrongOperand
with_text (Some text) k ks = Ok (k ∷ ks)

abbrev pub with_param : Option Param → List Kind → Checked
with_param None ks = Err defect.WrongOperand
with_param (Some p) ks = Ok (p.kind ∷ ks)

abbrev pub doubled : List Kind → Checked
doubled [] = Err defect.MissingOperand
doubled (x ∷ ks) = Ok (x ∷ x ∷ ks)

abbrev pub swapped : List Kind → Checked
swapped (y ∷ x ∷ ks) = Ok (x ∷ y ∷ ks)
swapped _ = Err defect.MissingOperand

-- pop one or two operands of a kind
abbrev pub without_one : Kind → List Kind → Checked
without_one k [] = Err defect.MissingOperand
without_one k (x ∷ ks) = if takes k x then Ok ks else Err defect.WrongOperand

abbrev pub without_two : Kind → List Kind → Checked
without_two k (y ∷ x ∷ ks) = if takes k y && takes k x then Ok ks else Err defect.WrongOperand
without_two k _ = Err defect.MissingOperand

-- pop the arguments of a command; the last is on top
abbrev pub without_args : Option Declaration → List Kind → Checked
without_args None ks = Err defect.UnknownCommand
without_args (Some d) ks =
    if nat_lt (length ks) (length d.params) then Err defect.MissingOperand
    else if takes_each d.params (reverse (take (length d.params) ks)) then Ok (drop (length d.params) ks)
    else Err defect.WrongArgument

-- push a kind on the result of a check
abbrev pub put : Kind → Checked → Checked
put k left = seen (λ ks. k ∷ ks) left

-- at most 64 operands are allowed
abbrev pub fitting : List Kind → Checked
fitting ks = unless defect.TooHigh (nat_le (length ks) 64) ks

abbrev pub fitted : Checked → Checked
fitted left = left >>= fitting

-- the effect of an instruction on a shape
abbrev pub effect : Commands → HandlerData → Instr → List Kind → Checked
effect commands h i.Return ks = Ok ks
effect commands h (i.Text n) ks = with_text (slice_get h.texts n) kind.Text ks
effect commands h (i.Num n) ks = Ok (kind.Number ∷ ks)
effect commands h (i.Truth b) ks = Ok (kind.Truth ∷ ks)
effect commands h (i.Arg n) ks = with_param (slice_get h.signature.params n) ks
effect commands h i.Drop ks = without_one kind.Any ks
effect commands h i.Dup ks = doubled ks
effect commands h i.Swap ks = swapped ks
effect commands h i.Add ks = put kind.Number (without_two kind.Number ks)
effect commands h i.Sub ks = put kind.Number (without_two kind.Number ks)
effect commands h i.Less ks = put kind.Truth (without_two kind.Number ks)
effect commands h i.Same ks = put kind.Truth (without_two kind.Any ks)
effect commands h i.Not ks = put kind.Truth (without_one kind.Truth ks)
effect commands h i.Join ks = put kind.Text (without_two kind.Text ks)
effect commands h i.Show ks = put kind.Text (without_one kind.Any ks)
effect commands h i.Size ks = put kind.Number (without_one kind.Text ks)
effect commands h i.IsTrue ks = put kind.Truth (without_one kind.Any ks)
effect commands h i.Number ks = put kind.Number (without_one kind.Any ks)
effect commands h (i.Jump to) ks = Ok ks
effect commands h (i.JumpIfFalse to) ks = without_one kind.Truth ks
effect commands h (i.Call n) ks = without_args (declaration_at commands h n) ks
effect commands h (i.Context n) ks = with_text (slice_get h.texts n) kind.Any ks
effect commands h i.Before ks = Ok (kind.Number ∷ ks)
effect commands h i.After ks = Ok (kind.Number ∷ ks)
effect commands h (i.Repeat n) ks = Ok ks
effect commands h i.End ks = Ok ks

-- a jump goes to a later place of the code in the same block; the next place is within the code
abbrev pub jumps_on : List Instr → ℕ → ℕ → Result ⊤ Defect
jumps_on code place to =
    guard defect.BadJump (nat_lt place to && (nat_lt to (length code) && same_block code place to))

abbrev pub falls_on : List Instr → ℕ → Result ⊤ Defect
falls_on code place = guard defect.FallsOff (nat_lt (suc place) (length code))

-- all exits of an instruction are later places of the code, and a jump stays in its block
abbrev pub leads : List Instr → ℕ → Instr → Result ⊤ Defect
leads code place i.Return = Ok tt
leads code place (i.Jump to) = jumps_on code place to
leads code place (i.JumpIfFalse to) = jumps_on code place to >> falls_on code place
leads code place _ = falls_on code place

-- the check of an instruction: first its operands, then its exits, then the limit of 64 operands
abbrev pub check : Commands → HandlerData → ℕ → List Kind → Instr → Checked
check commands h place ks instr =
    effect commands h instr ks >>= (λ after.
    leads h.code place instr >> fitting after)
