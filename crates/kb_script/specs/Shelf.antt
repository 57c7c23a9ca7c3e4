-- A session with its shelf, and the effect of a script's line on both. The shelf lists the host's
-- closures that aren't registered, as the natives that they implement.
use Rattle.std.specs.Prelude.{◌≡◌, Bool, true, false, List, [], ◌∷◌, ◌++◌, Option, Some, if◌then◌else◌}
use Rattle.std.specs.List.{list_any}
use Rattle.std.specs.List.Sorted.{IsPermutation}
use Rattle.kb_core.specs.declared.native.Native.{Native}
use Rattle.kb_handler_table.specs.Live.{same_native}
use Rattle.kb_resolve.specs.declared.found.Found.{Found}
use Rattle.kb_resolve.specs.declared.found.Found.TheVariants.{Nothing}
use Rattle.kb_session.specs.Inspect.{Finds}
use Rattle.kb_session.specs.Session as session
use Rattle.kb_session.specs.State.{State, Told, happens, register, dispose, Answered, ticket, gave, refused}
use Rattle.kb_session.specs.State.{Stepped, step}
use Rattle.kb_stream.specs.Fold.{Out, Traced, after, nothing}
use Rattle.kb_trace.specs.declared.event.Event.TheVariants as event

pub record Stand : Type 0 where
  pub state : State
  pub shelf : List Native

abbrev pub stand : State → List Native → Stand
stand state shelf = record { state = state; shelf = shelf }

-- a session's state and trace, with a shelf
abbrev pub beside : Traced State → List Native → Traced Stand
beside seen shelf = record { state = stand seen.state shelf; trace = seen.trace }

-- the meaning of a line: an input of the session, or the registration of the first closure for a native
-- on the shelf
pub data Said : Type 0 where
  tells : Told → Said
  takes : Native → Said

abbrev pub on_shelf : Native → List Native → Bool
on_shelf native shelf = list_any (same_native native) shelf

-- the shelf without its first closure for a native
abbrev pub without_first : Native → List Native → List Native
without_first native [] = []
without_first native (first ∷ rest) =
    if same_native native first then rest else first ∷ without_first native rest

-- the input of the session; a native without a closure on the shelf gives `NoClosure`
abbrev pub told_by : Said → List Native → Told
told_by (tells told) shelf = told
told_by (takes native) shelf = if on_shelf native shelf then register native else happens event.NoClosure

-- the shelf after an input and its answer: a refused closure and a disposed one go to its end
abbrev pub shelf_after : Told → Answered → List Native → List Native
shelf_after (register native) (ticket number) shelf = without_first native shelf
shelf_after (register native) (refused r) shelf = without_first native shelf ++ native ∷ []
shelf_after (dispose number) (gave native) shelf = shelf ++ native ∷ []
shelf_after told answer shelf = shelf

abbrev pub moved : Told → Stepped → List Native → Out Stand
moved told p shelf = record { state = stand p.state (shelf_after told p.answer shelf); lines = p.lines }

abbrev pub move_unless : Bool → Said → Stand → Out Stand
move_unless true said s = nothing s
move_unless false said s =
    moved (told_by said s.shelf) (step (told_by said s.shelf) s.state) s.shelf

-- the step of a script; a stopped session stays unchanged, and so does its shelf
abbrev pub move : Said → Stand → Out Stand
move said s = move_unless s.state.stopped said s

-- memory was refused before any line: the session is stopped, and it is otherwise unchanged, as is the shelf
abbrev pub halt : Traced Stand → Traced Stand
halt old = record old { state = record old.state { state = record old.state.state { stopped = true } } }

-- memory was refused to a running session: it is halted, and the shelf still has all its closures
pub record Halts (old new : Stand) : Type 0 where
  pub running : old.state.stopped ≡ false
  pub session : session.Halts old.state new.state
  pub shelf : IsPermutation old.shelf new.shelf

-- what a line found: what its event found, if it says one
abbrev pub FindsSaid : Option Said → State → State → Found → Type 0
FindsSaid (Some (tells (happens e))) old new found = Finds e old new found
FindsSaid said old new found = found ≡ Nothing

-- ---- for private functions

-- a running session and its shelf did what a line means
abbrev pub Obeys : Said → Traced Stand → Traced Stand → Type 0
Obeys said old new = new ≡ after (move said old.state) old
