-- The execution of a command: the core afterwards, its trace lines, and how it ended.
use Rattle.std.specs.Prelude.{ℕ, Bool, true, false, List, [], ◌∷◌, ◌++◌, Option, Some, None, bytes_eq}
use Rattle.std.specs.Prelude.{if◌then◌else◌}
use Rattle.serde_json.specs.Data.{Data}
use Rattle.kb_code.specs.Commands.{Callee, Table, declared_by}
use Rattle.kb_core.specs.Reading.{arguments_for}
use Rattle.kb_core.specs.declared.arg.Arg.{Arg}
use Rattle.kb_core.specs.Core.{Core}
use Rattle.kb_registry.specs.Live.{Live, callee, table_of}
use Rattle.kb_execute.specs.RunCommands.{Planned, plan_of, run_commands}
use Rattle.kb_execute.specs.declared.start.Finish.{Finish}
use Rattle.kb_execute.specs.declared.start.Finish.TheVariants.{Done, NotFound, BadArguments, Trapped}
use Rattle.kb_trace.specs.Lines as line
use Rattle.kb_vm.specs.Meaning as answer
use Rattle.kb_vm.specs.Meaning.{Answer, core_of, lines_of, first_world, run, run_callee}
use Rattle.kb_vm.specs.Trap.{kind_of}

pub record Started : Type 0 where
  pub core : Core
  pub lines : List (List ℕ)
  pub finish : Finish

abbrev pub started : Core → List (List ℕ) → Finish → Started
started core lines finish = record { core = core; lines = lines; finish = finish }

-- the same after other lines
abbrev pub behind : List (List ℕ) → Started → Started
behind lines p = started p.core (lines ++ p.lines) p.finish

-- a trap of a handler stops the session
abbrev pub stops : Finish → Bool
stops Done = false
stops NotFound = false
stops BadArguments = false
stops Trapped = true

-- the arguments don't fit a command
abbrev pub unfit : List ℕ → Core → Started
unfit command core = started core (line.bad_arguments_line command ∷ []) BadArguments

-- a command ran; the last line reports how it ended
abbrev pub ran : Answer → Started
ran (answer.Done w) = started (core_of w) (lines_of w ++ line.done_line (core_of w).buffer ∷ []) Done
ran (answer.Stuck trap command place w) =
    started (core_of w) (lines_of w ++ line.trap_line (kind_of trap) command place ∷ []) Trapped

-- a live command runs if the arguments fit it
abbrev pub started_with : Table → List ℕ → Callee → Option (List Arg) → Core → Started
started_with table command callee None core = unfit command core
started_with table command callee (Some args) core =
    ran (run_callee (run table) callee args (first_world core))

-- a live command, or none
abbrev pub started_as : Table → List ℕ → Option Callee → Option Data → Core → Started
started_as table command None given core = started core (line.not_found_line command ∷ []) NotFound
started_as table command (Some callee) given core =
    started_with table command callee (arguments_for (declared_by callee).params given) core

-- a live command, by its identifier, with its arguments as JSON
abbrev pub start_live : List ℕ → Option Data → Live → Core → Started
start_live command given live core = started_as (table_of live) command (callee command live) given core

-- the second execution follows the first, unless that failed
abbrev pub and_then : Finish → Started → Started → Started
and_then Done p q = started q.core (p.lines ++ q.lines) q.finish
and_then NotFound p q = p
and_then BadArguments p q = p
and_then Trapped p q = p

-- one command of a list
abbrev pub run_one : Planned → Live → Core → Started
run_one p live core = behind (line.run_line p.command ∷ []) (start_live p.command p.given live core)

-- the commands of a list, in order, up to the first that fails
abbrev pub run_all : List Planned → Live → Core → Started
run_all [] live core = started core [] Done
run_all (p ∷ ps) live core =
    and_then (run_one p live core).finish (run_one p live core) (run_all ps live (run_one p live core).core)

-- the commands of a valid list; an invalid one has unfit arguments
abbrev pub run_plan : Option (List Planned) → Live → Core → Started
run_plan None live core = unfit run_commands core
run_plan (Some ps) live core = run_all ps live core

-- a command; the engine implements `runCommands` itself
unfoldable pub start_of : List ℕ → Option Data → Live → Core → Started
start_of command given live core =
    if bytes_eq command run_commands then run_plan (plan_of given) live core
    else start_live command given live core
