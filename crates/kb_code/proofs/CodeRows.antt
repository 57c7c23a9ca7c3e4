-- Worked examples of the definitions of code.
use Rattle.std.proofs.Common.{◌≡◌, refl, ℕ, List, [], ◌∷◌, true, false, Some, None}
use Rattle.std.specs.Prelude.{◌==◌, Ok, Err}
use Rattle.kb_code.specs.declared.fault.CodeFault.TheVariants.{BadLength, BadOpcode, BadOperand, BadBlock}
use Rattle.kb_code.specs.declared.instr.Instr.{Instr}
use Rattle.kb_code.specs.declared.instr.Instr.TheVariants as i
use Rattle.kb_code.specs.declared.version.Version.TheVariants.{One, Two}
use Rattle.kb_code.specs.Blocks.{around_at}
use Rattle.kb_code.specs.Code.{code_fault}
use Rattle.kb_code.specs.Coding.{instr_at, code_of}
use Rattle.kb_code.specs.Callees.{callees_from}

-- a text, a call and the end
three : code_of One (1 ∷ 0 ∷ 0 ∷ 48 ∷ 0 ∷ 0 ∷ 0 ∷ 0 ∷ 0 ∷ []) ≡ Ok (i.Text 0 ∷ i.Call 0 ∷ i.Return ∷ [])
unfolding code_of instr_at
three = refl

-- the high byte of an operand comes first
high : code_of One (2 ∷ 1 ∷ 2 ∷ []) ≡ Ok (i.Num 258 ∷ [])
unfolding code_of instr_at
high = refl

truths : code_of One (3 ∷ 0 ∷ 0 ∷ 3 ∷ 0 ∷ 1 ∷ []) ≡ Ok (i.Truth false ∷ i.Truth true ∷ [])
unfolding code_of instr_at
truths = refl

nothing : code_of One [] ≡ Ok []
unfolding code_of
nothing = refl

-- four bytes, the second of which would be no opcode
four : code_of One (255 ∷ 0 ∷ 0 ∷ 0 ∷ []) ≡ Err BadLength
unfolding code_of
four = refl

no_opcode : code_of One (255 ∷ 0 ∷ 0 ∷ []) ≡ Err (BadOpcode 0)
unfolding code_of instr_at
no_opcode = refl

no_truth : code_of One (3 ∷ 0 ∷ 2 ∷ []) ≡ Err (BadOperand 0)
unfolding code_of instr_at
no_truth = refl

-- the first place counts, whichever fault it has
second : code_of One (0 ∷ 0 ∷ 0 ∷ 5 ∷ 0 ∷ 1 ∷ 65 ∷ 0 ∷ 0 ∷ []) ≡ Err (BadOperand 1)
unfolding code_of instr_at
second = refl

abbrev found_in : ℕ → List Instr → List ℕ
found_in calls code = callees_from code calls 0 (λ q. q == 0) code

-- a call behind the end is never reached, and one of an index outside the list names nothing
never : found_in 6 (i.Return ∷ i.Call 5 ∷ []) ≡ []
never = refl

outside : found_in 1 (i.Call 1 ∷ i.Call 0 ∷ i.Return ∷ []) ≡ 0 ∷ []
outside = refl

-- both ways of a branch are reached, and what a jump passes over isn't
branching : List Instr
branching =
    i.Truth true ∷ i.JumpIfFalse 4 ∷ i.Call 0 ∷ i.Jump 5 ∷ i.Call 1 ∷ i.Return ∷ i.Call 2 ∷ []

branch : found_in 3 branching ≡ 0 ∷ 1 ∷ []
unfolding branching around_at
branch = refl

passed_over : found_in 2 (i.Jump 2 ∷ i.Call 0 ∷ i.Call 1 ∷ i.Return ∷ []) ≡ 1 ∷ []
unfolding around_at
passed_over = refl

-- a jump back, or out of the code, reaches nothing
back : found_in 2 (i.Call 0 ∷ i.Jump 0 ∷ i.Call 1 ∷ []) ≡ 0 ∷ []
unfolding around_at
back = refl

out : found_in 1 (i.Jump 9 ∷ i.Call 0 ∷ []) ≡ []
unfolding around_at
out = refl

-- ---- version 2

-- a block of two iterations, which calls once in each
abbrev two : List Instr
two = i.Repeat 2 ∷ i.Text 0 ∷ i.Call 0 ∷ i.End ∷ i.Return ∷ []

two_read : code_of Two (80 ∷ 0 ∷ 2 ∷ 1 ∷ 0 ∷ 0 ∷ 48 ∷ 0 ∷ 0 ∷ 81 ∷ 0 ∷ 0 ∷ 0 ∷ 0 ∷ 0 ∷ []) ≡ Ok two
unfolding code_of instr_at
two_read = refl

two_formed : code_fault Two two ≡ None
two_formed = refl

-- version 1 has neither instruction
no_blocks : code_of One (80 ∷ 0 ∷ 2 ∷ []) ≡ Err (BadOpcode 0)
unfolding code_of instr_at
no_blocks = refl

no_end : code_of One (81 ∷ 0 ∷ 1 ∷ []) ≡ Err (BadOpcode 0)
unfolding code_of instr_at
no_end = refl

no_blocks_made : code_fault One two ≡ Some (BadOpcode 0)
no_blocks_made = refl

-- a block runs at least once
never_run : code_of Two (80 ∷ 0 ∷ 0 ∷ []) ≡ Err (BadOperand 0)
unfolding code_of instr_at
never_run = refl

never_made : code_fault Two (i.End ∷ i.Repeat 0 ∷ []) ≡ Some (BadOperand 1)
never_made = refl

-- an `End` of nothing, a `Return` inside a block, and blocks that are never closed, of which the outermost counts
end_alone : code_fault Two (i.End ∷ i.Return ∷ []) ≡ Some (BadBlock 0)
end_alone = refl

returns_inside : code_fault Two (i.Repeat 1 ∷ i.Return ∷ i.End ∷ []) ≡ Some (BadBlock 1)
returns_inside = refl

never_closed : code_fault Two (i.Num 1 ∷ i.Repeat 1 ∷ i.Repeat 2 ∷ i.Num 3 ∷ []) ≡ Some (BadBlock 1)
never_closed = refl

-- eight blocks may be open, and a ninth may not
eight : List Instr → List Instr
eight code =
    i.Repeat 1 ∷ i.Repeat 1 ∷ i.Repeat 1 ∷ i.Repeat 1 ∷ i.Repeat 1 ∷ i.Repeat 1 ∷ i.Repeat 1 ∷ i.Repeat 1 ∷ code

eight_open : code_fault Two (eight (i.End ∷ i.End ∷ i.End ∷ i.End ∷ i.End ∷ i.End ∷ i.End ∷ i.End ∷ [])) ≡ None
unfolding eight
eight_open = refl

ninth : code_fault Two (eight (i.Repeat 1 ∷ i.End ∷ [])) ≡ Some (BadBlock 8)
unfolding eight
ninth = refl

-- a call inside a block is reached, and so is one after it; a jump into a block or out of one reaches nothing
called_inside : found_in 2 (i.Repeat 2 ∷ i.Call 0 ∷ i.End ∷ i.Call 1 ∷ i.Return ∷ []) ≡ 0 ∷ 1 ∷ []
unfolding around_at
called_inside = refl

into : found_in 2 (i.Jump 2 ∷ i.Repeat 2 ∷ i.Call 0 ∷ i.End ∷ i.Call 1 ∷ i.Return ∷ []) ≡ []
unfolding around_at
into = refl

over : found_in 2 (i.Jump 4 ∷ i.Repeat 2 ∷ i.Call 0 ∷ i.End ∷ i.Call 1 ∷ i.Return ∷ []) ≡ 1 ∷ []
unfolding around_at
over = refl

out_of : found_in 2 (i.Repeat 2 ∷ i.Jump 3 ∷ i.End ∷ i.Call 1 ∷ i.Return ∷ []) ≡ []
unfolding around_at
out_of = refl
