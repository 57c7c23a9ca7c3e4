-- Where memory may be refused.
use Rattle.std.specs.Prelude.{◌≡◌, ◌⊎◌, ◌||◌, ℕ, Bool, true, false, nat_le, List, [], ◌∷◌, ◌++◌}
use Rattle.kb_core.specs.Core.{Core}
use Rattle.kb_code.specs.declared.instr.Instr.{Instr}
use Rattle.kb_code.specs.declared.instr.Instr.TheVariants as i
use Rattle.kb_code.specs.Commands.{declared_by}
use Rattle.kb_vm.specs.Effect.{Effect, Stop, Enter}
use Rattle.kb_vm.specs.Meaning.{Step, World, steps_of, Answer, Done, Stuck, first_world}

-- whether an instruction creates a text
abbrev pub makes_text : Instr → Bool
makes_text i.Join = true
makes_text i.Show = true
makes_text (i.Context n) = true
makes_text _ = false

abbrev pub is_call : Instr → Bool
is_call (i.Call n) = true
is_call _ = false

-- the instructions other than a call that a function performs outside of the loop over instructions
abbrev pub is_rare : Instr → Bool
is_rare (i.Text n) = true
is_rare (i.Arg n) = true
is_rare i.Dup = true
is_rare i.Swap = true
is_rare i.Same = true
is_rare i.Not = true
is_rare i.Join = true
is_rare i.Show = true
is_rare i.Size = true
is_rare i.IsTrue = true
is_rare i.Number = true
is_rare (i.Context n) = true
is_rare i.Before = true
is_rare i.After = true
is_rare _ = false

-- the instructions that allocate
abbrev pub asks_memory : Instr → Bool
asks_memory instr = makes_text instr || is_call instr

-- an effect that is no trap, with a remaining budget large enough for its callee
abbrev pub goes_on : ℕ → Effect → Bool
goes_on left (Stop trap) = false
goes_on left (Enter name callee args operands) = nat_le (declared_by callee).budget left
goes_on left _ = true

-- memory may be refused at this step: its instruction allocates, and it doesn't trap
pub record MayBeRefused (s : Step) : Type 0 where
  pub asks : asks_memory s.instr ≡ true
  pub goes : goes_on s.left s.effect ≡ true

-- memory may be refused at the last step
abbrev pub RefusedLast : World → Type 0
RefusedLast v = (before : List Step) × (s : Step) × (steps_of v ≡ before ++ s ∷ []) × MayBeRefused s

-- a trap comes only after an instruction was begun
abbrev pub IsBegun : Answer → Type 0
IsBegun (Done w) = Unit {0}
IsBegun (Stuck trap command place w) = steps_of w ≡ [] → ⊥

-- memory may be refused in this world on the way to an answer: before anything is done, or at the last
-- step, and never in place of a trap
abbrev pub MayLackAt : Core → Answer → World → Type 0
MayLackAt at_first a v = ((v ≡ first_world at_first) × IsBegun a) ⊎ RefusedLast v
