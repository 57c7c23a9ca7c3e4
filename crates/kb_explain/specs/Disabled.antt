-- Rules of extensions that aren't enabled.
use Rattle.std.specs.Prelude.{List, [], Option, None, Some, if◌then◌else◌}
use Rattle.std.specs.List.{filter_map, flat_map}
use Rattle.kb_bindings.specs.Sources.{Sources}
use Rattle.kb_files.specs.declared.extension_file.Extension.{Extension}
use Rattle.kb_keys.specs.Chord.{begins_with}
use Rattle.kb_keys.specs.declared.keystroke.Keystroke.{Keystroke}
use Rattle.kb_rules.specs.declared.rule.Rule.{Rule}

-- the rules of an extension, if it isn't enabled
abbrev pub idle_rules : Extension → List Rule
idle_rules e = if e.enabled then [] else e.rules.rules

-- a rule, if it begins with these keystrokes
abbrev pub on_strokes : List Keystroke → Rule → Option Rule
on_strokes strokes rule = if begins_with rule.chord strokes then Some rule else None

-- the rules that begin with these keystrokes, of all extensions that aren't enabled, in load order
abbrev pub disabled_in : Sources → List Keystroke → List Rule
disabled_in s strokes = filter_map (on_strokes strokes) (flat_map idle_rules s.extensions)

-- ---- for functions

-- those of one extension
abbrev pub disabled_of : List Keystroke → Extension → List Rule
disabled_of strokes e = filter_map (on_strokes strokes) (idle_rules e)
