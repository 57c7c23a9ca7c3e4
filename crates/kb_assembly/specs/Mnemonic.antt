-- The names of instructions.
use Rattle.std.specs.Prelude.{ℕ, Bool, true, false, List, [], ◌∷◌, Option, find, bytes_eq, codes}
use Rattle.kb_code.specs.declared.instr.Instr.{Instr}
use Rattle.kb_code.specs.declared.instr.Instr.TheVariants as i
use Rattle.kb_assembly.specs.declared.mnemonic.Mnemonic.{Mnemonic}
use Rattle.kb_assembly.specs.declared.mnemonic.Mnemonic.TheVariants as m
use Rattle.kb_assembly.specs.declared.mnemonic.Space.{Space}
use Rattle.kb_assembly.specs.declared.mnemonic.Space.TheVariants as space

abbrev pub mnemonics : List Mnemonic
mnemonics =
    m.Return ∷ m.Text ∷ m.Num ∷ m.False ∷ m.True ∷ m.Arg ∷ m.Drop ∷ m.Dup ∷ m.Swap ∷ m.Add ∷ m.Sub
    ∷ m.Less ∷ m.Same ∷ m.Not ∷ m.Join ∷ m.Show ∷ m.Size ∷ m.IsTrue ∷ m.Number ∷ m.Jump ∷ m.JumpIfFalse
    ∷ m.Call ∷ m.Context ∷ m.Before ∷ m.After ∷ m.Repeat ∷ m.End ∷ []

-- the word that names an instruction
abbrev pub name_of : Mnemonic → List ℕ
name_of m.Return = codes "return"
name_of m.Text = codes "text"
name_of m.Num = codes "num"
name_of m.False = codes "false"
name_of m.True = codes "true"
name_of m.Arg = codes "arg"
name_of m.Drop = codes "drop"
name_of m.Dup = codes "dup"
name_of m.Swap = codes "swap"
name_of m.Add = codes "add"
name_of m.Sub = codes "sub"
name_of m.Less = codes "less"
name_of m.Same = codes "same"
name_of m.Not = codes "not"
name_of m.Join = codes "join"
name_of m.Show = codes "show"
name_of m.Size = codes "size"
name_of m.IsTrue = codes "istrue"
name_of m.Number = codes "number"
name_of m.Jump = codes "jump"
name_of m.JumpIfFalse = codes "jfalse"
name_of m.Call = codes "call"
name_of m.Context = codes "context"
name_of m.Before = codes "before"
name_of m.After = codes "after"
name_of m.Repeat = codes "repeat"
name_of m.End = codes "end"

-- the instruction that a word names
abbrev pub named : List ℕ → Option Mnemonic
named text = find (λ mnemonic. bytes_eq text (name_of mnemonic)) mnemonics

abbrev pub truth_of : Bool → Mnemonic
truth_of true = m.True
truth_of false = m.False

-- the name of an instruction
abbrev pub mnemonic_of : Instr → Mnemonic
mnemonic_of i.Return = m.Return
mnemonic_of (i.Text n) = m.Text
mnemonic_of (i.Num n) = m.Num
mnemonic_of (i.Truth b) = truth_of b
mnemonic_of (i.Arg n) = m.Arg
mnemonic_of i.Drop = m.Drop
mnemonic_of i.Dup = m.Dup
mnemonic_of i.Swap = m.Swap
mnemonic_of i.Add = m.Add
mnemonic_of i.Sub = m.Sub
mnemonic_of i.Less = m.Less
mnemonic_of i.Same = m.Same
mnemonic_of i.Not = m.Not
mnemonic_of i.Join = m.Join
mnemonic_of i.Show = m.Show
mnemonic_of i.Size = m.Size
mnemonic_of i.IsTrue = m.IsTrue
mnemonic_of i.Number = m.Number
mnemonic_of (i.Jump n) = m.Jump
mnemonic_of (i.JumpIfFalse n) = m.JumpIfFalse
mnemonic_of (i.Call n) = m.Call
mnemonic_of (i.Context n) = m.Context
mnemonic_of i.Before = m.Before
mnemonic_of i.After = m.After
mnemonic_of (i.Repeat n) = m.Repeat
mnemonic_of i.End = m.End

-- the instruction of a name with an operand, if it has one
abbrev pub instr_with : Mnemonic → ℕ → Instr
instr_with m.Return n = i.Return
instr_with m.Text n = i.Text n
instr_with m.Num n = i.Num n
instr_with m.False n = i.Truth false
instr_with m.True n = i.Truth true
instr_with m.Arg n = i.Arg n
instr_with m.Drop n = i.Drop
instr_with m.Dup n = i.Dup
instr_with m.Swap n = i.Swap
instr_with m.Add n = i.Add
instr_with m.Sub n = i.Sub
instr_with m.Less n = i.Less
instr_with m.Same n = i.Same
instr_with m.Not n = i.Not
instr_with m.Join n = i.Join
instr_with m.Show n = i.Show
instr_with m.Size n = i.Size
instr_with m.IsTrue n = i.IsTrue
instr_with m.Number n = i.Number
instr_with m.Jump n = i.Jump n
instr_with m.JumpIfFalse n = i.JumpIfFalse n
instr_with m.Call n = i.Call n
instr_with m.Context n = i.Context n
instr_with m.Before n = i.Before
instr_with m.After n = i.After
instr_with m.Repeat n = i.Repeat n
instr_with m.End n = i.End

-- where the operand comes from
abbrev pub space_of : Mnemonic → Space
space_of m.Text = space.Texts
space_of m.Context = space.Keys
space_of m.Call = space.Calls
space_of m.Arg = space.Params
space_of m.Jump = space.Labels
space_of m.JumpIfFalse = space.Labels
space_of m.Num = space.Number
space_of m.Repeat = space.Number
space_of _ = space.Nothing
