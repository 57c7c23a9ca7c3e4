-- The unread patterns of all files, in the order of the files and of their entries.
use Rattle.std.specs.Prelude.{List, ◌++◌}
use Rattle.std.specs.List.{flat_map}
use Rattle.kb_base.specs.declared.note.EntryPattern.{EntryPattern}
use Rattle.kb_files.specs.Extension.{unread_in}
use Rattle.kb_bindings.specs.Sources.{Sources}

-- those of the default rules, of the extensions in load order, and of the user's rules
abbrev pub unread_of : Sources → List EntryPattern
unread_of s = s.defaults.unread ++ (flat_map unread_in s.extensions ++ s.user.unread)
