-- The return from a frame.
use Rattle.std.specs.Prelude.{◌≡◌, ◌≤◌}
use Rattle.kb_vm.specs.declared.machine.Machine.{Machine}
use Rattle.kb_vm.specs.declared.machine.Turn.{Turn}
use Rattle.kb_vm.specs.declared.machine.Turn.TheVariants as turn
use Rattle.kb_code.specs.Commands.{Table}
use Rattle.kb_vm.specs.Meaning.{World, Done}
use Rattle.kb_vm.specs.State.{finish, rest, credit}

-- core, lines and cost stay the same, and the remaining budget doesn't grow
pub record Keeps (m n : Machine) : Type 0 where
  pub core : n.core ≡ m.core
  pub lines : n.lines ≡ m.lines
  pub spent : n.spent ≡ m.spent
  pub credit : credit n ≤ credit m

abbrev pub Left : Table → Machine → Turn → Type 0
Left table m (turn.On n) = Keeps m n × ((w : World) → finish table m.callers (Done w) ≡ rest table n w)
Left table m (turn.Ended n) = Keeps m n × ((w : World) → finish table m.callers (Done w) ≡ Done w)
Left table m (turn.Trapped n trap) = ⊥
Left table m (turn.NoMemory n) = ⊥
