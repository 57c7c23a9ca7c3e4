-- Rules that removals took, list by list.
use Rattle.std.proofs.Common.{◌≡◌, ◌++◌, ◌∷◌, ◌∙◌, List, [], Option, Some, None, map, ap, refl, sym}
use Rattle.std.proofs.Common.{option_to_list}
use Rattle.std.proofs.lemmas.List.{append_assoc}
use Rattle.std.proofs.lemmas.List.Elements.{filter_map-append}
use Rattle.std.specs.List.{cons_option, filter_map, flat_map}
use Rattle.kb_bindings.specs.Sources.{Sources}
use Rattle.kb_explain.specs.Removed.{removals_in, removed_in, removed_of, rules_by, taken_from}
use Rattle.kb_files.specs.declared.extension_file.Extension.{Extension}
use Rattle.kb_keys.specs.declared.keystroke.Keystroke.{Keystroke}
use Rattle.kb_rules.specs.declared.removal.Removal.{Removal}
use Rattle.kb_rules.specs.declared.rule.Rule.{Rule}

-- those of one more, and then those of the ones that are left
pub one_more_list : {X Y : Type 0} (f : X → List Y) (now before whole : List Y) (x : X) (xs rest : List X)
    → xs ≡ x ∷ rest → now ≡ before ++ f x → before ++ flat_map f xs ≡ whole → now ++ flat_map f rest ≡ whole
one_more_list {X} {Y} f now before whole x xs rest is made so_far =
    ap (λ (ys : List Y). ys ++ flat_map f rest) made
    ∙ append_assoc before (f x) (flat_map f rest)
    ∙ ap (λ (ys : List X). before ++ flat_map f ys) (sym is)
    ∙ so_far

kept : {Y : Type 0} (y : Option Y) (ys : List Y) → cons_option y ys ≡ option_to_list y ++ ys
kept None ys = refl
kept (Some y) ys = refl

-- what comes of one more, if something does, and then what comes of those that are left
pub one_more_passed : {X Z Y : Type 0} (g : X → Z) (f : Z → Option Y) (now before whole : List Y) (x : X)
    (xs rest : List X) → xs ≡ x ∷ rest → now ≡ before ++ option_to_list (f (g x))
    → before ++ filter_map f (map g xs) ≡ whole → now ++ filter_map f (map g rest) ≡ whole
one_more_passed {X} {Z} {Y} g f now before whole x xs rest is made so_far =
    ap (λ (ys : List Y). ys ++ filter_map f (map g rest)) made
    ∙ append_assoc before (option_to_list (f (g x))) (filter_map f (map g rest))
    ∙ ap (λ (ys : List Y). before ++ ys) (sym (kept (f (g x)) (filter_map f (map g rest))))
    ∙ ap (λ (ys : List X). before ++ filter_map f (map g ys)) (sym is)
    ∙ so_far

module _ (removals : List Removal) (strokes : List Keystroke) where
  of_all : (es : List Extension)
      → filter_map (taken_from removals strokes) (flat_map rules_by es)
      ≡ flat_map (removed_of removals strokes) es
  of_all [] = refl
  of_all (e ∷ es) =
      filter_map-append (taken_from removals strokes) (rules_by e) (flat_map rules_by es)
      ∙ ap (λ (zs : List (Rule × Removal)). removed_of removals strokes e ++ zs) (of_all es)

-- those of the default rules, and then those of the extensions
pub removed_whole : (s : Sources) (strokes : List Keystroke) (removals : List Removal)
    (first made : List (Rule × Removal)) → removals ≡ removals_in s
    → first ≡ filter_map (taken_from removals strokes) s.defaults.rules
    → made ≡ first ++ flat_map (removed_of removals strokes) s.extensions → made ≡ removed_in s strokes
removed_whole s strokes removals first made e f g =
    g ∙ ap (λ (rs : List (Rule × Removal)). rs ++ flat_map (removed_of removals strokes) s.extensions) f
    ∙ ap (λ (rs : List (Rule × Removal)). filter_map (taken_from removals strokes) s.defaults.rules ++ rs)
    (sym (of_all removals strokes s.extensions))
    ∙ sym (filter_map-append (taken_from removals strokes) s.defaults.rules (flat_map rules_by s.extensions))
    ∙ ap (λ (rs : List Removal). filter_map (taken_from rs strokes)
    (s.defaults.rules ++ flat_map rules_by s.extensions)) e
