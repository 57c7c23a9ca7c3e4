-- The steps of `runCommands` that began in an event.
use Rattle.std.specs.Prelude.{ℕ, zero, suc, ◌+◌, List, [], codes, drop, if◌then◌else◌, nat_eq}
use Rattle.std.specs.Prelude.{Option, Some, None, slice_get, unwrap_or}
use Rattle.std.specs.List.{starts_with}

-- the command of the step that begins in a line, if there is one: `run COMMAND`
abbrev pub step_in : Option (List ℕ) → Option (List ℕ)
step_in None = None
step_in (Some line) = if starts_with nat_eq line (codes "run ") then Some (drop 4 line) else None

-- how many steps begin in a line
abbrev pub one_if_some : Option (List ℕ) → ℕ
one_if_some None = 0
one_if_some (Some command) = 1

abbrev pub steps_in : Option (List ℕ) → ℕ
steps_in line = one_if_some (step_in line)

-- how many steps begin in so many lines of a trace
abbrev pub steps_begun : List (List ℕ) → ℕ → ℕ
steps_begun trace zero = 0
steps_begun trace (suc place) = steps_in (slice_get trace place) + steps_begun trace place

-- the command of the last step that begins in so many lines of a trace, or nothing
abbrev pub last_step : List (List ℕ) → ℕ → List ℕ
last_step trace zero = []
last_step trace (suc place) = unwrap_or (step_in (slice_get trace place)) (last_step trace place)
