-- Rules of extensions that aren't enabled, extension by extension.
use Rattle.std.proofs.Common.{◌≡◌, ◌++◌, ◌∷◌, ◌∙◌, List, [], ap, refl, sym}
use Rattle.std.proofs.lemmas.List.Elements.{filter_map-append}
use Rattle.std.specs.List.{filter_map, flat_map}
use Rattle.kb_bindings.specs.Sources.{Sources}
use Rattle.kb_explain.specs.Disabled.{disabled_in, disabled_of, idle_rules, on_strokes}
use Rattle.kb_files.specs.declared.extension_file.Extension.{Extension}
use Rattle.kb_keys.specs.declared.keystroke.Keystroke.{Keystroke}
use Rattle.kb_rules.specs.declared.rule.Rule.{Rule}

of_all : (strokes : List Keystroke) (es : List Extension)
    → filter_map (on_strokes strokes) (flat_map idle_rules es) ≡ flat_map (disabled_of strokes) es
of_all strokes [] = refl
of_all strokes (e ∷ es) =
    filter_map-append (on_strokes strokes) (idle_rules e) (flat_map idle_rules es)
    ∙ ap (λ (rs : List Rule). disabled_of strokes e ++ rs) (of_all strokes es)

-- those of all extensions are those of each in turn
pub disabled_whole : (s : Sources) (strokes : List Keystroke) (made : List Rule)
    → made ≡ flat_map (disabled_of strokes) s.extensions → made ≡ disabled_in s strokes
disabled_whole s strokes made e = e ∙ sym (of_all strokes s.extensions)
