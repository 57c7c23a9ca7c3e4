-- The list of `runCommands`, which is read as a whole before any of its commands runs.
use Rattle.std.specs.Prelude.{ℕ, List, Option, Some, None, option_map, option_and_then, codes, length}
use Rattle.std.specs.Prelude.{bytes_eq, nat_lt, if◌then◌else◌}
use Rattle.serde_json.specs.Data.{Data, null, boolean, number, string, array, object}
use Rattle.serde_json.specs.Find.{get, as_str}
use Rattle.serde_json.specs.View.{view}
use Rattle.kb_jsonc.specs.Parts.{each, elements_of}
use Rattle.kb_execute.specs.declared.run_commands.Step.{Step}

-- the identifier of the command that runs a list
abbrev pub run_commands : List ℕ
run_commands = codes "runCommands"

-- a command of the list, with its arguments as JSON
pub record Planned : Type 0 where
  pub command : List ℕ
  pub given : Option Data

-- the same, borrowed from the JSON value
abbrev pub planned : Step → Planned
planned step = record { command = step.command.now; given = option_map (λ v. view v.now) step.given }

-- any command but `runCommands` itself
abbrev pub planned_for : Option Data → List ℕ → Option Planned
planned_for given command =
    if bytes_eq command run_commands then None else Some (record { command = command; given = given })

-- an element is the identifier of a command, or an object with a text `command` and optional `args`
abbrev pub planned_in : Data → Option Planned
planned_in null = None
planned_in (boolean b) = None
planned_in (number n) = None
planned_in (string command) = planned_for None command
planned_in (array ds) = None
planned_in (object ms) =
    option_and_then (planned_for (get (codes "args") (object ms)))
    (option_and_then as_str (get (codes "command") (object ms)))

-- a list of at most 32 elements
abbrev pub few : List Data → Option (List Data)
few ds = if nat_lt 32 (length ds) then None else Some ds

-- the list is the member `commands` of an object
abbrev pub elements_given : Option Data → Option (List Data)
elements_given given =
    option_and_then few (option_and_then elements_of (option_and_then (get (codes "commands")) given))

-- all commands of the list, or nothing if any element isn't valid
abbrev pub plan_of : Option Data → Option (List Planned)
plan_of given = option_and_then (each planned_in) (elements_given given)
