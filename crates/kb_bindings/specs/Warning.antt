-- The warnings about the entries of all files, in the order of the files.
use Rattle.std.specs.Prelude.{List, ◌++◌}
use Rattle.std.specs.List.{flat_map}
use Rattle.kb_base.specs.declared.note.Warning.{Warning}
use Rattle.kb_files.specs.declared.extension_file.Extension.{Extension}
use Rattle.kb_bindings.specs.Sources.{Sources}

-- those of an extension: of its commands, its rules and its items of the palette
abbrev pub of_extension : Extension → List Warning
of_extension e = e.manifest.command_notes.warnings ++ (e.rules.warnings ++ e.manifest.palette_notes.warnings)

-- those of the default rules, of the extensions in load order, and of the user's rules
abbrev pub warnings_of : Sources → List Warning
warnings_of s = s.defaults.warnings ++ (flat_map of_extension s.extensions ++ s.user.warnings)
