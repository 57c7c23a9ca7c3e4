-- What the calls of an engine make of it.
use Rattle.std.specs.Prelude.{◌≡◌, ℕ, true, false, List, [], ◌∷◌, ◌++◌, drop, length, Option, Some, None}
use Rattle.std.specs.Prelude.{IsSome, ◌==◌, if◌then◌else◌}
use Rattle.std.specs.Str.{is_utf8}
use Rattle.kb_bindings.specs.Load.{MarksAreRight}
use Rattle.kb_core.specs.Native.{natives}
use Rattle.kb_engine.specs.Files.{no_files, platform_numbered, with_extension, with_file, with_platform}
use Rattle.kb_engine.specs.Part.{part_numbered}
use Rattle.kb_engine.specs.Notice.{IsRefusal, warnings_text}
use Rattle.kb_engine.specs.Running as running
use Rattle.kb_engine.specs.Running.{HaltsFrom, next_number}
use Rattle.kb_engine.specs.Steps.{last_step, steps_begun}
use Rattle.kb_engine.specs.Taken as taken
use Rattle.kb_engine.specs.Values.{EngineData, RunningData}
use Rattle.kb_engine.specs.declared.part.Part.{Part}
use Rattle.kb_engine.specs.declared.part.Part.TheVariants as part
use Rattle.kb_engine.specs.declared.outcome.Outcome.{Outcome}
use Rattle.kb_engine.specs.declared.outcome.Outcome.TheVariants as outcome
use Rattle.kb_engine.specs.declared.taken.Taken.{Taken}
use Rattle.kb_engine.specs.declared.taken.TakenKind.{TakenKind}
use Rattle.kb_engine.specs.declared.taken.TakenKind.TheVariants as kind
use Rattle.kb_palette.specs.declared.listing.Entry.{Entry}
use Rattle.kb_script.specs.Script.{key_event}
use Rattle.kb_session.specs.Session.{IsOf}
use Rattle.kb_session.specs.State.{State}
use Rattle.kb_stream.specs.Writing.{text_of_lines}
use Rattle.kb_trace.specs.declared.event.Event.{Event}

-- an engine without files and without a session
abbrev pub new_engine : EngineData
new_engine = record {
  files = no_files;
  running = None;
  notice = [];
  taken = taken.bare kind.Nothing [];
  shown = [];
}

-- ---- before the load

-- the files are handed in before the load
abbrev pub IsEarly : EngineData → Type 0
IsEarly old = old.running ≡ None

-- a call that comes out of order
abbrev pub IsLate : EngineData → EngineData → Type 0
IsLate old new = IsSome old.running × (new ≡ old)

-- a file is handed in, by its number
abbrev pub GivesFile : ℕ → List ℕ → EngineData → Outcome → EngineData → Type 0
GivesFile number bytes old outcome.Done new =
    IsEarly old × (with_file number bytes old.files ≡ Some new.files)
    × (new ≡ record old { files = new.files })
GivesFile number bytes old outcome.OutOfOrder new = IsLate old new
GivesFile number bytes old outcome.Unknown new = (with_file number bytes old.files ≡ None) × (new ≡ old)
GivesFile number bytes old outcome.NoMemory new = IsSome (with_file number bytes old.files) × (new ≡ old)
GivesFile number bytes old o new = ⊥

-- the platform is named, by its number
abbrev pub GivesPlatform : ℕ → EngineData → Outcome → EngineData → Type 0
GivesPlatform number old outcome.Done new =
    IsEarly old × (platform_numbered number ≡ Some new.files.platform)
    × (new ≡ record old { files = with_platform new.files.platform old.files })
GivesPlatform number old outcome.OutOfOrder new = IsLate old new
GivesPlatform number old outcome.Unknown new = (platform_numbered number ≡ None) × (new ≡ old)
GivesPlatform number old o new = ⊥

-- the files of an extension are handed in
abbrev pub GivesExtension : List ℕ → Option (List ℕ) → EngineData → Outcome → EngineData → Type 0
GivesExtension manifest handlers old outcome.Done new =
    IsEarly old × (new ≡ record old { files = with_extension manifest handlers old.files })
GivesExtension manifest handlers old outcome.OutOfOrder new = IsLate old new
GivesExtension manifest handlers old outcome.NoMemory new = new ≡ old
GivesExtension manifest handlers old o new = ⊥

-- ---- the load

-- a session of the files, with all native commands and a shelf of as many; its patterns are marked as `regex`
-- does or doesn't read them
abbrev pub Starts : EngineData → Option RunningData → List ℕ → Type 0
Starts old None notice = ⊥
Starts old (Some r) notice =
    IsOf old.files natives r.session × MarksAreRight old.files r.session.state.sources
    × (r.shelf ≡ natives) × (r.number ≡ 0)
    × (notice ≡ warnings_text r.session.state.sources)

-- a load, by its outcome
abbrev pub LoadsBy : EngineData → Outcome → EngineData → Type 0
LoadsBy old outcome.Done new =
    IsEarly old × Starts old new.running new.notice
    × (new ≡ record old { running = new.running; notice = new.notice })
LoadsBy old outcome.OutOfOrder new = IsLate old new
LoadsBy old outcome.Refused new =
    IsEarly old × IsRefusal old.files new.notice × (new ≡ record old { notice = new.notice })
LoadsBy old outcome.NoMemory new = IsEarly old × (new ≡ old)
LoadsBy old o new = ⊥

-- ---- events

-- only the session and what was taken change
abbrev pub KeepsFiles : EngineData → EngineData → Type 0
KeepsFiles old new = new ≡ record old { running = new.running; taken = new.taken }

-- an event is told to the session, if there is one
abbrev pub TellsIn : Event → Option RunningData → Outcome → Option RunningData → Type 0
TellsIn e None o new = (o ≡ outcome.OutOfOrder) × (new ≡ None)
TellsIn e (Some old) o None = ⊥
TellsIn e (Some old) o (Some new) = running.Tells e old o new

-- what was taken of the session, if there is one
abbrev pub TakesOf : (State → Taken → Type 0) → EngineData → Option RunningData → Outcome → Taken → Type 0
TakesOf P old None o t = t ≡ old.taken
TakesOf P old (Some r) o t = taken.TakesBy (P r.session.state) o t

abbrev pub Tells : Event → EngineData → Outcome → EngineData → Type 0
Tells e old o new =
    TellsIn e old.running o new.running × TakesOf (taken.Takes e) old old.running o new.taken
    × KeepsFiles old new

-- a line of a script is told to the session, if there is one
abbrev pub TellsLineIn : List ℕ → Option RunningData → Outcome → Option RunningData → Type 0
TellsLineIn line None o new = (o ≡ outcome.OutOfOrder) × (new ≡ None)
TellsLineIn line (Some old) o None = ⊥
TellsLineIn line (Some old) o (Some new) = running.TellsLine line old o new

-- the number of the next line
abbrev pub next_of : Option RunningData → ℕ
next_of None = 1
next_of (Some r) = next_number r.number

abbrev pub TellsLine : List ℕ → EngineData → Outcome → EngineData → Type 0
TellsLine line old o new =
    TellsLineIn line old.running o new.running
    × TakesOf (taken.TakesLine (next_of old.running) line) old old.running o new.taken
    × KeepsFiles old new

-- memory was refused before an event was made: the session is stopped, if there is one
abbrev pub HaltsIn : Option RunningData → Outcome → Option RunningData → Type 0
HaltsIn None o new = (o ≡ outcome.OutOfOrder) × (new ≡ None)
HaltsIn (Some old) o None = ⊥
HaltsIn (Some old) o (Some new) = (o ≡ outcome.NoMemory) × HaltsFrom old new

abbrev pub LosesTaken : EngineData → Option RunningData → Taken → Type 0
LosesTaken old None t = t ≡ old.taken
LosesTaken old (Some r) t = t ≡ taken.no_taken

abbrev pub Halts : EngineData → Outcome → EngineData → Type 0
Halts old o new =
    HaltsIn old.running o new.running × LosesTaken old old.running new.taken × KeepsFiles old new

-- the event of a key's text
abbrev pub key_told : List ℕ → Option Event
key_told key = if is_utf8 key then key_event key else None

-- an event of a host's bytes, if they are UTF-8
abbrev pub when_text : List ℕ → Option Event → Option Event
when_text bytes e = if is_utf8 bytes then e else None

-- an event is told if a text gives one, and nothing changes if not
abbrev pub TellsIf : Outcome → Option Event → EngineData → Outcome → EngineData → Type 0
TellsIf otherwise None old o new = (o ≡ otherwise) × (new ≡ old)
TellsIf otherwise (Some e) old o new = Tells e old o new

-- ---- what a host reads

abbrev pub trace_text : Option RunningData → List ℕ
trace_text None = []
trace_text (Some r) = text_of_lines r.session.trace

abbrev pub before_caret : Option RunningData → List ℕ
before_caret None = []
before_caret (Some r) = r.session.state.core.buffer.before

abbrev pub after_caret : Option RunningData → List ℕ
after_caret None = []
after_caret (Some r) = r.session.state.core.buffer.after

-- the command of the last step of `runCommands` that began in the last event, and how many began
abbrev pub step_command : Option RunningData → List ℕ
step_command None = []
step_command (Some r) = last_step r.session.trace (length r.session.trace)

abbrev pub steps_of : Option RunningData → ℕ
steps_of None = 0
steps_of (Some r) = steps_begun r.session.trace (length r.session.trace)

abbrev pub part_of : Part → EngineData → List ℕ
part_of part.Trace e = trace_text e.running
part_of part.Notice e = e.notice
part_of part.Chord e = e.taken.chord
part_of part.Command e = e.taken.command
part_of part.Arguments e = e.taken.arguments
part_of part.Source e = e.taken.source
part_of part.Before e = before_caret e.running
part_of part.After e = after_caret e.running
part_of part.Step e = step_command e.running
part_of part.Keys e = e.shown

-- the text that a number stands for
abbrev pub text_of_part : Option Part → EngineData → List ℕ
text_of_part None e = []
text_of_part (Some p) e = part_of p e

abbrev pub numbered_text : ℕ → EngineData → List ℕ
numbered_text number e = text_of_part (part_numbered number) e

-- the number of what an event did
abbrev pub kind_number : TakenKind → ℕ
kind_number kind.Nothing = 0
kind_number kind.Chord = 1
kind_number kind.Started = 2

-- the entries of the last palette, none without one
abbrev pub entries_in : Option (List Entry) → List Entry
entries_in None = []
entries_in (Some entries) = entries

abbrev pub entries_of : Option RunningData → List Entry
entries_of None = []
entries_of (Some r) = entries_in r.session.state.listed

-- a text of an entry: its label for 0, its command for 1
abbrev pub entry_text : Option Entry → ℕ → List ℕ
entry_text None part = []
entry_text (Some e) part = if part == 0 then e.label else (if part == 1 then e.command else [])

-- these bytes over the first ones of a room
abbrev pub over : List ℕ → List ℕ → List ℕ
over bytes room = bytes ++ drop (length bytes) room
