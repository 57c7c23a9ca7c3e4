-- What a host can ask a session: how a command that an event starts ends, and what a key press finds.
use Rattle.std.specs.Prelude.{◌≡◌, ℕ, Option, Some, None}
use Rattle.kb_bindings.specs.Sources.{IsPlaceOf, found_behind, pressed}
use Rattle.kb_execute.specs.declared.start.Finish.{Finish}
use Rattle.kb_execute.specs.declared.start.Finish.TheVariants.{Done}
use Rattle.kb_keys.specs.declared.keystroke.Keystroke.{Keystroke}
use Rattle.kb_palette.specs.declared.listing.Entry.{Entry}
use Rattle.kb_resolve.specs.Resolved.{Resolution}
use Rattle.kb_resolve.specs.declared.found.Found.{Found}
use Rattle.kb_resolve.specs.declared.found.Found.TheVariants.{Nothing}
use Rattle.kb_session.specs.Palette.{choice_started, entry_at}
use Rattle.kb_session.specs.Press.{press_started}
use Rattle.kb_session.specs.State.{State}
use Rattle.kb_trace.specs.Lines as line
use Rattle.kb_trace.specs.declared.event.Event.{Event}
use Rattle.kb_trace.specs.declared.event.Event.TheVariants as event

-- what a press of a key finds, behind the keystrokes of the open chord
abbrev pub found_by : Keystroke → State → Resolution
found_by key s = found_behind s.pressed key s.core.scopes s.sources

-- what an event found: a key press what its search finds, at a position among the rules that are in force
-- then and still afterwards; any other event nothing
abbrev pub Finds : Event → State → State → Found → Type 0
Finds (event.Key key) old new found = IsPlaceOf new.sources found (found_by key old)
Finds e old new found = found ≡ Nothing

-- how the command of a chosen entry ends
abbrev pub choice_finish : ℕ → Option Entry → State → Finish
choice_finish number None s = Done
choice_finish number (Some e) s = (choice_started number e.command s.live s.core).finish

-- how the command that an event starts ends; an event that starts none is done
abbrev pub finish_of : Event → State → Finish
finish_of (event.Key key) s =
    (press_started (line.key_text s.pressed key) (pressed s.pressed key s.core.scopes s.sources) s.live
    s.core).finish
finish_of (event.Choose number) s = choice_finish number (entry_at number s.listed) s
finish_of e s = Done
