-- The effect of a session's calls.
use Rattle.std.specs.Prelude.{◌≡◌, ◌⊎◌, ◌||◌, ℕ, Bool, true, false, List, [], ◌∷◌}
use Rattle.std.specs.Prelude.{Some, Result, Ok, Err}
use Rattle.kb_base.specs.Failure.{Fails}
use Rattle.kb_base.specs.Reading.{◌>>=◌, seen}
use Rattle.kb_context.specs.Scopes.{ScopesData}
use Rattle.kb_base.specs.declared.failure.Failure.{Failure}
use Rattle.kb_core.specs.declared.native.Native.{Native}
use Rattle.kb_core.specs.Core.{Core}
use Rattle.kb_keys.specs.declared.keystroke.Keystroke.{Keystroke}
use Rattle.kb_bindings.specs.Load as load
use Rattle.kb_bindings.specs.Load.{held_by}
use Rattle.kb_files.specs.Inputs.{Files}
use Rattle.kb_files.specs.Extensions.{handlers_of}
use Rattle.kb_bindings.specs.Sources.{Sources}
use Rattle.kb_session.specs.State.{State, Told, happens, Answered, did, refused, step, step_on, out_of, next}
use Rattle.kb_session.specs.State.{IsSafe, loaded_state, named_in, switching, updated}
use Rattle.kb_code.specs.Face.{same_face}
use Rattle.kb_handler_table.specs.Codes.{CodesData}
use Rattle.kb_handler_table.specs.Live as table
use Rattle.kb_extension_code.specs.Dependencies.{Placed}
use Rattle.kb_files.specs.declared.fault.LoadFault.{LoadFault}
use Rattle.kb_bindings.specs.declared.load.Loaded.{Loaded}
use Rattle.kb_extension_code.specs.Checked.{LiveChecked}
use Rattle.kb_extension_code.specs.Raw.{raw_held}
use Rattle.kb_registry.specs.Live.{Live}
use Rattle.kb_session.specs.declared.fault.SessionFault.{SessionFault}
use Rattle.kb_session.specs.declared.fault.SessionFault.TheVariants.{Refused, NoMemory, Stopped}
use Rattle.kb_base.specs.declared.note.EntryPattern.{EntryPattern}
use Rattle.kb_stream.specs.Fold.{Traced, after, after_all, StopsAmong}
use Rattle.kb_stream.specs.Lines.{Begins}
use Rattle.kb_trace.specs.declared.event.Answer.{Answer}
use Rattle.kb_trace.specs.declared.event.Answer.TheVariants as answer
use Rattle.kb_trace.specs.declared.event.Event.{Event}
use Rattle.kb_trace.specs.declared.event.Event.TheVariants as event

-- what contracts see of a session: its state and its trace
abbrev pub Seen : Type 0
Seen = Traced State

abbrev pub loaded_session : ScopesData → Sources → Live → Seen
loaded_session scopes sources live = record { state = loaded_state scopes sources live; trace = [] }

-- the first list of unread patterns of a session, that of the load
abbrev pub first_list : List (List EntryPattern) → List EntryPattern
first_list [] = []
first_list (told ∷ lists) = told

-- the unread patterns of the load, as the session reports them
abbrev pub marks_by : Seen → List EntryPattern
marks_by session = first_list session.state.unread

-- ---- a load whose handlers are verified

-- the session is loaded from these files, with the marks that it reports, with closures for these
-- natives, and with the handlers of extensions, all of them verified
pub record IsOf (files : Files) (natives : List Native) (session : Seen) : Type 0 where
  pub loaded : Loaded
  pub held : load.loaded (marks_by session) files ≡ Ok loaded
  pub live : LiveChecked natives loaded.bindings.extensions loaded.handlers (Ok session.state.live)
  pub is : session ≡ loaded_session loaded.scopes.seen loaded.bindings session.state.live

-- the files are accepted, but registering the commands fails; the fault doesn't depend on the marks
pub record CommandsFail (files : Files) (natives : List Native) (failure : Failure LoadFault) : Type 0 where
  pub marks : List EntryPattern
  pub loaded : Loaded
  pub held : load.loaded marks files ≡ Ok loaded
  pub fail : LiveChecked natives loaded.bindings.extensions loaded.handlers (Err failure)

-- the result of a load: the session that the files define, with the marks that the session reports; or
-- the fault of a file, else that of the commands; or refused memory
abbrev pub Loads : Files → List Native → Result Seen (Failure LoadFault) → Type 0
Loads files natives (Ok session) = IsOf files natives session
Loads files natives (Err failure) = Fails failure (held_by files) ⊎ CommandsFail files natives failure

-- ---- a load without verification of handlers

-- the result of loading files, with marks for their patterns and closures for these natives: a session,
-- or the first fault
abbrev pub loaded_raw : List EntryPattern → Files → List Native → Result Seen LoadFault
loaded_raw marks files natives =
    load.loaded marks files
    >>= λ l. seen (loaded_session l.scopes.seen l.bindings) (raw_held natives l.handlers)

-- the same without the session's sources; the fault doesn't depend on marks
abbrev pub raw_load_held : Files → List Native → Result Live LoadFault
raw_load_held files natives = held_by files >>= λ held. raw_held natives (handlers_of held.rules.extensions)

abbrev pub LoadsRaw : Files → List Native → Result Seen (Failure LoadFault) → Type 0
LoadsRaw files natives (Ok session) = loaded_raw (marks_by session) files natives ≡ Ok session
LoadsRaw files natives (Err failure) = Fails failure (raw_load_held files natives)

-- ---- calls

abbrev pub answered : Answer → Answered
answered answer.Did = did
answered (answer.Refused r) = refused r

-- the session handled an input
abbrev pub took : Told → Seen → Seen
took told old = after (next told old.state) old

-- a running session handled an input, with this answer
abbrev pub Answers : Told → Seen → Answered → Seen → Type 0
Answers told old a new =
    (old.state.stopped ≡ false) × ((step told old.state).answer ≡ a) × (new ≡ took told old)

-- the same for a call that returns a refusal as an answer
abbrev pub Takes : Told → Seen → Answer → Seen → Type 0
Takes told old a new = Answers told old (answered a) new

-- the session takes rules in lines of a script, or doesn't
abbrev pub with_rule_lines : Bool → Seen → Seen
with_rule_lines are_taken old = record old { state = record old.state { takes_rules = are_taken } }

-- memory was refused: the session is stopped and otherwise unchanged
abbrev pub halt : Seen → Seen
halt old = record old { state = record old.state { stopped = true } }

-- the same after an incomplete key press: the core and the keystrokes of the chord may have changed; or after
-- an incomplete choice, where the keystrokes stay
abbrev pub half_done : Core → List Keystroke → State → State
half_done core pressed s = record s { core = core; pressed = pressed; stopped = true }

abbrev pub Halts : State → State → Type 0
Halts old new = new ≡ half_done new.core new.pressed old

-- memory was refused to a running session
abbrev pub HaltsRunning : State → State → Type 0
HaltsRunning old new = (old.stopped ≡ false) × Halts old new

-- only a key press and a choice can be incomplete, and the trace never has lines of an incomplete input
abbrev pub HaltsAt : Told → Seen → Seen → Type 0
HaltsAt (happens (event.Key key)) old new = Halts old.state new.state × (new.trace ≡ old.trace)
HaltsAt (happens (event.Choose number)) old new =
    (new.state ≡ half_done new.state.core old.state.pressed old.state) × (new.trace ≡ old.trace)
HaltsAt told old new = new ≡ halt old

-- the fault of a call that returns a refusal as an answer: refused memory, which stops the session, or
-- an earlier stop, which leaves it unchanged
abbrev pub FailsAt : SessionFault → Told → Seen → Seen → Type 0
FailsAt (Refused refusal) told old new = ⊥
FailsAt NoMemory told old new = (old.state.stopped ≡ false) × HaltsAt told old new
FailsAt Stopped told old new = (old.state.stopped ≡ true) × (new ≡ old)

-- the fault of a call that returns a refusal as a fault
abbrev pub RefusesAt : SessionFault → Told → Seen → Seen → Type 0
RefusesAt (Refused refusal) told old new = Answers told old (refused refusal) new
RefusesAt NoMemory told old new = FailsAt NoMemory told old new
RefusesAt Stopped told old new = FailsAt Stopped told old new

-- whether a trap of a handler stops the session before the last input
abbrev pub is_left : List Told → State → Bool
is_left [] s = false
is_left (told ∷ rest) s = s.stopped || is_left rest (next told s).state

-- whether the session is stopped before the inputs or before the last of them
abbrev pub is_late : List Told → State → Bool
is_late told s = s.stopped || is_left told s

-- a running session that is safe is stopped neither before the inputs nor before the last of them, so a run
-- of them fails for refused memory alone
abbrev pub RunsThrough : Type 0
RunsThrough = (told : List Told) (s : State) → s.stopped ≡ false → IsSafe s → is_late told s ≡ false

-- the fault of a run of events: memory was refused in one of them, before which the session wasn't stopped;
-- or the session was stopped before the last one
abbrev pub FailsAmong : SessionFault → List Told → Seen → Seen → Type 0
FailsAmong (Refused refusal) told old new = ⊥
FailsAmong NoMemory told old new = (old.state.stopped ≡ false) × StopsAmong next HaltsRunning told old new
FailsAmong Stopped told old new = (is_late told old.state ≡ true) × (new ≡ after_all next told old)

-- ---- for private functions

-- a running session handled an input, with this answer
abbrev pub Does : Told → Seen → Answer → Seen → Type 0
Does told old a new =
    ((step_on told old.state).answer ≡ answered a) × (new ≡ after (out_of (step_on told old.state)) old)

-- the state is unchanged, and lines may have been added
abbrev pub Undone : Seen → Seen → Type 0
Undone old new = (new.state ≡ old.state) × Begins old.trace new.trace

-- a key press is incomplete
abbrev pub HalfDone : Seen → Seen → Type 0
HalfDone old new =
    (new.state ≡ record old.state { core = new.state.core; pressed = new.state.pressed })
    × Begins old.trace new.trace

-- a choice is incomplete
abbrev pub HalfChosen : Seen → Seen → Type 0
HalfChosen old new =
    (new.state ≡ record old.state { core = new.state.core }) × Begins old.trace new.trace

-- an event is incomplete
abbrev pub IsHalf : Event → Seen → Seen → Type 0
IsHalf (event.Key key) old new = HalfDone old new
IsHalf (event.Choose number) old new = HalfChosen old new
IsHalf e old new = Undone old new

-- an extension was enabled or disabled, with its lines
abbrev pub has_switched : Bool → List ℕ → Seen → Seen
has_switched enabled id old = after (out_of (switching enabled id old.state)) old

-- an extension got other code, with its line
abbrev pub has_updated : List ℕ → CodesData → Seen → Seen
has_updated id codes old = after (out_of (updated (Ok codes) (named_in id old.state) old.state)) old

-- code declares the same commands as the code of the extension before
abbrev pub KeepsFace : List ℕ → State → CodesData → Type 0
KeepsFace id s codes =
    (p : Placed) → named_in id s ≡ Some p
    → same_face (table.handlers_of p.extension.number s.live.code) codes.handlers ≡ true
