-- The core that commands change in place.
use Rattle.std.specs.Prelude.{Option, [], unwrap_or}
use Rattle.kb_core.specs.Core.{Core}
use Rattle.kb_core.specs.Core.{new_core}
use Rattle.kb_execute.specs.declared.held_core.Ended.{Ended}
use Rattle.kb_vm.specs.declared.machine.Outcome.{Outcome}

-- the core, which is present between calls; an empty one stands for a missing core
abbrev pub held : Option Core → Core
held core = unwrap_or core (new_core (record { scopes = []; focus = 0 }))

-- the outcome of a start, with its core
abbrev pub outcome : Core → Ended → Outcome
outcome core e = record { core = core; spent = e.spent; lines = e.lines; finish = e.finish }
