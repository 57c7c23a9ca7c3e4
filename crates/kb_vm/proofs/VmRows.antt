-- Worked examples of the definitions: runs of small handlers.
use Rattle.std.proofs.Common.{◌≡◌, ℕ, List, [], ◌∷◌, Option, Some, None, refl, if◌then◌else◌, codes}
use Rattle.std.proofs.Common.{bytes_eq, length}
use Rattle.std.proofs.Common.{option_map}
use Rattle.json.specs.Print.{print_from, escape_byte}
use Rattle.kb_core.specs.declared.native.Native.{Native}
use Rattle.kb_core.specs.declared.native.Native.TheVariants.{TypeText}
use Rattle.kb_core.specs.Core.{Core}
use Rattle.kb_core.specs.Core.{new_core}
use Rattle.kb_code.specs.declared.instr.Instr.{Instr}
use Rattle.kb_code.specs.declared.instr.Instr.TheVariants as i
use Rattle.kb_code.specs.Blocks.{around_at}
use Rattle.kb_code.specs.Handler.{HandlerData}
use Rattle.kb_vm.specs.declared.trap.Trap.{Trap}
use Rattle.kb_vm.specs.declared.trap.Trap.TheVariants.{MissingOperand, UnknownCommand, WrongArgument}
use Rattle.kb_vm.specs.declared.trap.Trap.TheVariants.{OutOfBudget}
use Rattle.kb_vm.specs.declared.trap.Trap.TheVariants.{TooDeep, BadCode}
use Rattle.kb_vm.specs.CallLine.{list_text}
use Rattle.kb_code.specs.Commands.{Plain, Coded, Table}
use Rattle.kb_vm.specs.Meaning.{World, core_of, lines_of, steps_of, natives_of}
use Rattle.kb_vm.specs.Meaning.{Answer, Done, Stuck, run, start_of}

-- a handler x.hi with this code, which may call itself and `type`; the native `type` is live too
handler : ℕ → List Instr → HandlerData
handler budget code = record {
  command = codes "x.hi";
  signature = record { params = []; budget = budget; depth = 1 };
  texts = codes "hi" ∷ [];
  calls = codes "type" ∷ codes "x.hi" ∷ codes "none" ∷ [];
  code = code;
}

table : ℕ → List Instr → Table
table budget code name =
    if bytes_eq name (codes "x.hi") then Some (Coded (handler budget code))
    else if bytes_eq name (codes "type") then Some (Plain TypeText) else None

first : Core
first = new_core (record { scopes = []; focus = 0 })

-- the checked parts of an answer: its trap with the place, and what happened, with the number of
-- instructions
record Row : Type 0 where
  trap : Option (Trap × ℕ)
  core : Core
  lines : List (List ℕ)
  count : ℕ
  natives : List Native

row_in : Option (Trap × ℕ) → World → Row
row_in trap w = record { trap = trap; core = core_of w; lines = lines_of w; count = length (steps_of w); natives = natives_of w }

row_of : Answer → Row
row_of (Done w) = row_in None w
row_of (Stuck trap command place w) = row_in (Some (trap, place)) w

started : ℕ → List Instr → Option Row
started budget code = option_map row_of (start_of (table budget code) (codes "x.hi") [] first)

-- a trap at a place after some instructions, with no other effect
stuck : Trap → ℕ → ℕ → Option Row
stuck trap place count =
    Some (record { trap = Some (trap, place); core = first; lines = []; count = count; natives = [] })

-- three instructions and a native: the text "hi" is typed
types_hi : started 1004 (i.Text 0 ∷ i.Call 0 ∷ i.Return ∷ [])
    ≡ Some (record {
      trap = None;
      core = record { buffer = record { before = codes "hi"; after = [] }; scopes = first.scopes };
      lines = codes "call type [\"hi\"]" ∷ [];
      count = 3;
      natives = TypeText ∷ [];
    })
unfolding handler table first row_in row_of started run list_text print_from escape_byte
types_hi = refl

-- a budget that covers the callee's, but one instruction too few after it
one_too_few : started 1003 (i.Text 0 ∷ i.Call 0 ∷ i.Return ∷ [])
    ≡ Some (record {
      trap = Some (OutOfBudget, 2);
      core = record { buffer = record { before = codes "hi"; after = [] }; scopes = first.scopes };
      lines = codes "call type [\"hi\"]" ∷ [];
      count = 2;
      natives = TypeText ∷ [];
    })
unfolding handler table first row_in row_of started run list_text print_from escape_byte
one_too_few = refl

-- the callee's budget is more than the remaining one
too_dear : started 1002 (i.Text 0 ∷ i.Call 0 ∷ i.Return ∷ []) ≡ stuck OutOfBudget 1 2
unfolding handler table first row_in row_of started stuck run
too_dear = refl

no_operand : started 9 (i.Add ∷ []) ≡ stuck MissingOperand 0 1
unfolding handler table first row_in row_of started stuck run
no_operand = refl

no_command : started 9 (i.Call 2 ∷ []) ≡ stuck UnknownCommand 0 1
unfolding handler table first row_in row_of started stuck run
no_command = refl

wrong_kind : started 9 (i.Num 1 ∷ i.Call 0 ∷ []) ≡ stuck WrongArgument 1 2
unfolding handler table first row_in row_of started stuck run
wrong_kind = refl

-- a call of itself, whose depth equals its own
too_deep : started 9 (i.Call 1 ∷ []) ≡ stuck TooDeep 0 1
unfolding handler table first row_in row_of started stuck run
too_deep = refl

-- it continues after the end of its code; no cost is counted for that
no_code : started 9 (i.Num 1 ∷ []) ≡ stuck BadCode 1 1
unfolding handler table first row_in row_of started stuck run
no_code = refl

-- a jump to its own place
no_way_back : started 9 (i.Jump 0 ∷ []) ≡ stuck BadCode 0 1
unfolding handler table first row_in row_of started stuck run
no_way_back = refl

-- a block that types "hi" in each of its two iterations
twice : List Instr
twice = i.Repeat 2 ∷ i.Text 0 ∷ i.Call 0 ∷ i.End ∷ i.Return ∷ []

hi_twice : Core
hi_twice = record { buffer = record { before = codes "hihi"; after = [] }; scopes = first.scopes }

-- the `Repeat` costs 1 once, and the `End` costs 1 in each iteration
types_twice : started 2010 twice
    ≡ Some (record {
      trap = None;
      core = hi_twice;
      lines = codes "call type [\"hi\"]" ∷ codes "call type [\"hi\"]" ∷ [];
      count = 8;
      natives = TypeText ∷ TypeText ∷ [];
    })
unfolding handler table first row_in row_of started run list_text print_from escape_byte twice hi_twice around_at
types_twice = refl

one_too_few_of_two : started 2009 twice
    ≡ Some (record {
      trap = Some (OutOfBudget, 4);
      core = hi_twice;
      lines = codes "call type [\"hi\"]" ∷ codes "call type [\"hi\"]" ∷ [];
      count = 7;
      natives = TypeText ∷ TypeText ∷ [];
    })
unfolding handler table first row_in row_of started run list_text print_from escape_byte twice hi_twice around_at
one_too_few_of_two = refl

-- a jump out of a block, and one into a block; a jump to the block's `End` stays inside
out_of_block : started 9 (i.Repeat 2 ∷ i.Jump 3 ∷ i.End ∷ i.Return ∷ []) ≡ stuck BadCode 1 2
unfolding handler table first row_in row_of started stuck run around_at
out_of_block = refl

into_block : started 9 (i.Jump 2 ∷ i.Repeat 2 ∷ i.End ∷ i.Return ∷ []) ≡ stuck BadCode 0 1
unfolding handler table first row_in row_of started stuck run around_at
into_block = refl

to_the_end : started 9 (i.Repeat 2 ∷ i.Jump 2 ∷ i.End ∷ i.Return ∷ [])
    ≡ Some (record { trap = None; core = first; lines = []; count = 6; natives = [] })
unfolding handler table first row_in row_of started stuck run around_at
to_the_end = refl
