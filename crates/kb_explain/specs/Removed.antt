-- Rules that removals took.
use Rattle.std.specs.Prelude.{◌++◌, List, [], Option, None, find, if◌then◌else◌, map, option_map}
use Rattle.std.specs.List.{filter_map, flat_map}
use Rattle.kb_bindings.specs.Sources.{Sources}
use Rattle.kb_explain.specs.declared.removed.Removed.{Removed}
use Rattle.kb_files.specs.declared.extension_file.Extension.{Extension}
use Rattle.kb_keys.specs.Chord.{begins_with}
use Rattle.kb_keys.specs.declared.keystroke.Keystroke.{Keystroke}
use Rattle.kb_rules.specs.Removal.{takes}
use Rattle.kb_rules.specs.declared.removal.Removal.{Removal}
use Rattle.kb_rules.specs.declared.rule.Rule.{Rule}

-- the removals and the rules of an extension, if it is enabled
abbrev pub removals_by : Extension → List Removal
removals_by e = if e.enabled then e.rules.removals else []

abbrev pub rules_by : Extension → List Rule
rules_by e = if e.enabled then e.rules.rules else []

-- the removals in force: of the default rules, of the enabled extensions in load order, and of the user
abbrev pub removals_in : Sources → List Removal
removals_in s = (s.defaults.removals ++ flat_map removals_by s.extensions) ++ s.user.removals

-- the rules that they may take: those of the user stay
abbrev pub removable_in : Sources → List Rule
removable_in s = s.defaults.rules ++ flat_map rules_by s.extensions

-- a rule that begins with these keystrokes, with the first of the removals that takes it, if one does
abbrev pub taken_from : List Removal → List Keystroke → Rule → Option (Rule × Removal)
taken_from removals strokes rule =
    if begins_with rule.chord strokes
    then option_map (λ removal. (rule, removal)) (find (λ removal. takes removal rule) removals)
    else None

-- the rules that begin with these keystrokes and that aren't in force, since a removal takes them, each with
-- the first removal in force that does
abbrev pub removed_in : Sources → List Keystroke → List (Rule × Removal)
removed_in s strokes = filter_map (taken_from (removals_in s) strokes) (removable_in s)

-- ---- for functions

-- rules with the removals that took them
abbrev pub pairs_of : List Removed → List (Rule × Removal)
pairs_of removed = map (λ r. (r.rule.now, r.by.now)) removed

-- those of an extension's rules that are removed
abbrev pub removed_of : List Removal → List Keystroke → Extension → List (Rule × Removal)
removed_of removals strokes e = filter_map (taken_from removals strokes) (rules_by e)
