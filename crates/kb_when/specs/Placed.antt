-- Unsupported patterns of entries, each with its entry: a place in a part of a file.
use Rattle.std.specs.Prelude.{ℕ, List, map, filter, nat_eq, Bool, true, false, ◌&&◌}
use Rattle.kb_base.specs.declared.note.Origin.{Origin}
use Rattle.kb_base.specs.declared.note.Origin.TheVariants.{Defaults, Extension, User}
use Rattle.kb_base.specs.declared.note.Part.{Part}
use Rattle.kb_base.specs.declared.note.Part.TheVariants.{Commands, Keybindings, Palette}
use Rattle.kb_base.specs.declared.note.EntryPattern.{EntryPattern}
use Rattle.kb_base.specs.declared.note.UnreadPattern.{UnreadPattern}

abbrev pub same_origin : Origin → Origin → Bool
same_origin Defaults Defaults = true
same_origin Defaults (Extension number) = false
same_origin Defaults User = false
same_origin (Extension number) Defaults = false
same_origin (Extension number) (Extension other) = nat_eq number other
same_origin (Extension number) User = false
same_origin User Defaults = false
same_origin User (Extension number) = false
same_origin User User = true

abbrev pub same_part : Part → Part → Bool
same_part Commands Commands = true
same_part Commands Keybindings = false
same_part Commands Palette = false
same_part Keybindings Commands = false
same_part Keybindings Keybindings = true
same_part Keybindings Palette = false
same_part Palette Commands = false
same_part Palette Keybindings = false
same_part Palette Palette = true

-- a pattern is of the entry at a place in a part of a file
abbrev pub is_at : Origin → Part → ℕ → EntryPattern → Bool
is_at origin part place u = same_origin origin u.origin && (same_part part u.part && nat_eq u.place place)

-- the patterns of an entry in a list of patterns of many entries
abbrev pub marks_at : Origin → Part → List EntryPattern → ℕ → List UnreadPattern
marks_at origin part unread place =
    map (λ u. u.unread) (filter (is_at origin part place) unread)

-- the patterns of a clause, as those of the entry that has it
abbrev pub placed : Origin → Part → ℕ → List UnreadPattern → List EntryPattern
placed origin part place patterns = map (λ p. record {
  origin = origin;
  part = part;
  place = place;
  unread = p;
}) patterns
