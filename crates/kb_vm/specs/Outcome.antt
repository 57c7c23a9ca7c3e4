-- The outcome of a start.
use Rattle.std.specs.Prelude.{◌≡◌, ℕ, ◌+◌, ◌≤◌, List, [], ◌++◌, length, sum_by, Option, Some, None}
use Rattle.kb_core.specs.Core.{Core}
use Rattle.kb_core.specs.Native.{budget_of}
use Rattle.kb_vm.specs.declared.machine.Outcome.{Outcome}
use Rattle.kb_vm.specs.declared.machine.End.{End}
use Rattle.kb_vm.specs.declared.machine.End.TheVariants as end
use Rattle.kb_vm.specs.Meaning.{Event, World, core_of, lines_of, steps_of, natives_of}
use Rattle.kb_vm.specs.Meaning.{Answer, Done, Stuck}
use Rattle.kb_vm.specs.Memory.{MayLackAt}

-- the world of an answer
abbrev pub world_of : Answer → World
world_of (Done w) = w
world_of (Stuck trap command place w) = w

-- v is a moment of the run that ended in w: both began with one core, and w is v after some later events
pub record Precedes (v w : World) : Type 0 where
  pub first : w.first ≡ v.first
  pub past : (later : List Event) × (w.past ≡ later ++ v.past)

-- the parts of a moment that the machine holds; each native costs between 0 and its budget
pub record Shows (w : World) (core : Core) (lines : List (List ℕ)) (spent : ℕ) : Type 0 where
  pub core_is : core_of w ≡ core
  pub lines_are : lines_of w ≡ lines
  pub at_least : length (steps_of w) ≤ spent
  pub at_most : spent ≤ length (steps_of w) + sum_by budget_of (natives_of w)

-- an outcome is the answer, or, if memory was refused, a moment of the run
abbrev pub Ends : Core → Answer → Outcome → End → Type 0
Ends at_first a o end.Done = (v : World) × Shows v o.core o.lines o.spent × (a ≡ Done v)
Ends at_first a o (end.Trap trap command place) =
    (v : World) × Shows v o.core o.lines o.spent × (a ≡ Stuck trap command.now place v)
Ends at_first a o end.NoMemory =
    (v : World) × Shows v o.core o.lines o.spent × Precedes v (world_of a) × MayLackAt at_first a v
Ends at_first a o end.NotFound = ⊥

-- if no live command has the name, nothing happens
pub record IsNotFound (at_first : Core) (o : Outcome) : Type 0 where
  pub finish : o.finish ≡ end.NotFound
  pub core : o.core ≡ at_first
  pub lines : o.lines ≡ []
  pub spent : o.spent ≡ 0

-- an outcome agrees with the meaning of a start
abbrev pub Gives : Option Answer → Core → Outcome → Type 0
Gives None core o = IsNotFound core o
Gives (Some a) core o = Ends core a o o.finish
