-- What an event and a line of a script make of a session and its shelf.
use Rattle.std.specs.Prelude.{◌≡◌, ℕ, ◌+◌, ◌-◌, ◌^◌, true, false, List, []}
use Rattle.std.specs.Prelude.{nat_lt, if◌then◌else◌, Option}
use Rattle.std.specs.List.Sorted.{IsPermutation}
use Rattle.kb_base.specs.declared.note.EntryPattern.{EntryPattern}
use Rattle.kb_engine.specs.Values.{RunningData}
use Rattle.kb_engine.specs.declared.outcome.Outcome.{Outcome}
use Rattle.kb_engine.specs.declared.outcome.Outcome.TheVariants as outcome
use Rattle.kb_execute.specs.declared.start.Finish.{Finish}
use Rattle.kb_execute.specs.declared.start.Finish.TheVariants as finish
use Rattle.kb_script.specs.Script.{line_said}
use Rattle.kb_script.specs.ScriptRun.{AreRightlySaid, with_marks}
use Rattle.kb_resolve.specs.declared.found.Found.{Found}
use Rattle.kb_resolve.specs.declared.found.Found.TheVariants.{Nothing}
use Rattle.kb_script.specs.Shelf as shelf
use Rattle.kb_script.specs.Shelf.{Said, Stand, beside, move}
use Rattle.kb_session.specs.Inspect.{finish_of}
use Rattle.kb_session.specs.Session.{Halts, Seen, halt}
use Rattle.kb_session.specs.State.{Answered, State, Told, did, gave, halted, happens, next, refused, step}
use Rattle.kb_session.specs.State.{ticket}
use Rattle.kb_stream.specs.Fold.{Traced, after, after_all}
use Rattle.kb_trace.specs.declared.event.Event.{Event}

-- a session without its trace
abbrev pub untraced : Seen → Seen
untraced session = record { state = session.state; trace = [] }

abbrev pub cleared : RunningData → RunningData
cleared r = record r { session = untraced r.session }

-- the session took an input, and its trace is that of this input alone
abbrev pub told_to : Told → RunningData → RunningData
told_to told r = record r { session = after (next told r.session.state) (untraced r.session) }

-- the outcome of an event that was taken, by how the command ended that it started
abbrev pub outcome_for : Finish → Outcome
outcome_for finish.Done = outcome.Done
outcome_for finish.NotFound = outcome.NotFound
outcome_for finish.BadArguments = outcome.BadArguments
outcome_for finish.Trapped = outcome.Trapped

-- the outcome of an event, by its answer
abbrev pub outcome_by : Answered → Finish → Outcome
outcome_by did f = outcome_for f
outcome_by (ticket number) f = outcome_for f
outcome_by (gave native) f = outcome_for f
outcome_by (refused r) f = outcome.Refused
outcome_by halted f = outcome.Stopped

abbrev pub outcome_of : Event → State → Outcome
outcome_of e s = outcome_by (step (happens e) s).answer (finish_of e s)

-- memory was refused: the session is stopped, its trace is empty, and a part of the event may be done
abbrev pub HaltsFrom : RunningData → RunningData → Type 0
HaltsFrom old new =
    Halts old.session.state new.session.state × (new.session.trace ≡ []) × (new.shelf ≡ old.shelf)
    × (new.number ≡ old.number)

-- what an event makes of a session, by the outcome
abbrev pub Tells : Event → RunningData → Outcome → RunningData → Type 0
Tells e old outcome.Stopped new = (old.session.state.stopped ≡ true) × (new ≡ cleared old)
Tells e old outcome.NoMemory new = HaltsFrom old new
Tells e old o new =
    (old.session.state.stopped ≡ false) × (outcome_of e old.session.state ≡ o)
    × (new ≡ told_to (happens e) old)

-- ---- lines of a script

-- the number of the next line, as far as 64 bits go
abbrev pub next_number : ℕ → ℕ
next_number number = if nat_lt number (2 ^ 64 - 1) then number + 1 else number

-- the session with its shelf, as a run of a script sees them
abbrev pub stand_of : RunningData → Traced Stand
stand_of r = beside r.session r.shelf

-- the marks of the patterns of the user's rules, which a line that reloads them tells
abbrev pub marks_of : RunningData → List EntryPattern
marks_of r = r.session.state.sources.user.unread

-- what a line makes of a session and its shelf, by what it says
abbrev pub after_line : List EntryPattern → Option Said → Traced Stand → Traced Stand
after_line marks said = after_all move (with_marks marks said)

-- a running session did what a line says, and its trace is that of this line alone; the patterns of a reload
-- are marked as `regex` does or doesn't read them
abbrev pub DoesSaid : Option Said → RunningData → RunningData → Type 0
DoesSaid said old new =
    (old.session.state.stopped ≡ false) × (new.number ≡ next_number old.number)
    × (stand_of new ≡ after_line (marks_of new) said (stand_of (cleared old)))
    × AreRightlySaid (with_marks (marks_of new) said)

-- memory was refused in a line: the shelf still has all its commands, perhaps in another order
abbrev pub HaltsInLine : RunningData → RunningData → Type 0
HaltsInLine old new =
    shelf.Halts (stand_of old).state (stand_of new).state × (new.session.trace ≡ [])

-- what a line makes of a session, by the outcome; a trap stops it
abbrev pub TellsSaid : Option Said → RunningData → Outcome → RunningData → Type 0
TellsSaid said old outcome.Stopped new = (old.session.state.stopped ≡ true) × (new ≡ cleared old)
TellsSaid said old outcome.NoMemory new = HaltsInLine old new
TellsSaid said old outcome.Trapped new = DoesSaid said old new × (new.session.state.stopped ≡ true)
TellsSaid said old outcome.Done new = DoesSaid said old new × (new.session.state.stopped ≡ false)
TellsSaid said old outcome.NotFound new = DoesSaid said old new × (new.session.state.stopped ≡ false)
TellsSaid said old outcome.BadArguments new = DoesSaid said old new × (new.session.state.stopped ≡ false)
TellsSaid said old o new = ⊥

-- the same for the bytes of the next line
abbrev pub TellsLine : List ℕ → RunningData → Outcome → RunningData → Type 0
TellsLine line old o new = TellsSaid (line_said (next_number old.number) line) old o new

-- ---- what an event found

-- what was found behind an outcome: nothing, if nothing was done
abbrev pub FindsBy : (Found → Type 0) → Outcome → Found → Type 0
FindsBy P outcome.Stopped found = found ≡ Nothing
FindsBy P outcome.NoMemory found = found ≡ Nothing
FindsBy P o found = P found
