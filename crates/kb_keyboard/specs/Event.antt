-- The keystroke that an event is.
use Rattle.std.specs.Prelude.{ℕ, List, ◌&&◌, not, Bool, true, false, if◌then◌else◌, Option, Some, None}
use Rattle.std.specs.Prelude.{bytes_eq, codes}
use Rattle.kb_keys.specs.declared.modifiers.Modifiers.{Modifiers}
use Rattle.kb_keys.specs.declared.platform.Platform.{Platform}
use Rattle.kb_keys.specs.declared.platform.Platform.TheVariants.{Mac, Linux, Windows}
use Rattle.kb_keyboard.specs.declared.event.Held.{Held}
use Rattle.kb_keyboard.specs.declared.event.Pressed.{Pressed}
use Rattle.kb_keyboard.specs.declared.event.Pressed.TheVariants.{Silent, Nameless, Named}
use Rattle.kb_keyboard.specs.Naming.{key_at}
use Rattle.kb_keyboard.specs.Tables.{is_silent}

abbrev pub is_windows : Platform → Bool
is_windows Mac = false
is_windows Linux = false
is_windows Windows = true

-- the modifiers that are held; on Windows AltGr takes ctrl and alt
abbrev pub modifiers_of : Held → Platform → Modifiers
modifiers_of held platform = record {
  ctrl = held.ctrl && not (held.alt_graph && is_windows platform);
  shift = held.shift;
  alt = held.alt && not (held.alt_graph && is_windows platform);
  meta = held.meta;
}

-- a key without a name: nothing if it is a dead key
abbrev pub without_name : List ℕ → Pressed
without_name key = if bytes_eq key (codes "Dead") then Silent else Nameless

abbrev pub with_name : Held → Platform → List ℕ → Option ℕ → Pressed
with_name held platform key None = without_name key
with_name held platform key (Some k) = Named (record { mods = modifiers_of held platform; key = k })

unfoldable pub keystroke_of : List ℕ → List ℕ → Held → Platform → Pressed
keystroke_of code key held platform =
    if is_silent key then Silent else with_name held platform key (key_at code key held.shift)
