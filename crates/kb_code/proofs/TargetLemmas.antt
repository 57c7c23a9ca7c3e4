-- The target at an index of the list of calls has the native that the name at that index names.
use Rattle.std.proofs.Common.{◌≡◌, ◌∙◌, ℕ, ◌<◌, List, None, sym, ap, length, map, get_or, subst}
use Rattle.std.proofs.lemmas.List.{length-map, get_or-map}
use Rattle.kb_core.specs.Native.{named}
use Rattle.kb_code.specs.declared.target.Target.{Target}
use Rattle.kb_code.specs.Target.{natives_in}

pub target_native : (targets : List Target) (names : List (List ℕ)) (place : ℕ) (t : Target) (name : List ℕ)
    → natives_in targets ≡ map named names → place < length names → name ≡ get_or names place name
    → (get_or targets place t).native ≡ named name
target_native targets names place t name same below is =
    let many : length targets ≡ length names =
    sym (length-map targets (λ (t : Target). t.native)) ∙ ap length same ∙ length-map names named in
    sym (get_or-map (λ (t : Target). t.native) targets place t None (subst (λ n. place < n) (sym many) below))
    ∙ ap (λ natives. get_or natives place None) same
    ∙ get_or-map named names place name None below
    ∙ ap named (sym is)
