-- An identifier among those of extensions in a slice.
use Rattle.std.proofs.Common.{◌≡◌, ◌<◌, ℕ, ◌+◌, List, ◌∷◌, map, length, drop, sym, ap, ◌∙◌, true, false, get_or, refl}
use Rattle.std.proofs.lemmas.List.{drop_more}
use Rattle.kb_base.specs.ExtensionId.{same_id}
use Rattle.kb_files.specs.Identifiers.{Names, is_among}

module _ {E : Type 0} (names : E → Names) where
  pub among_here : (id : List ℕ) (others : List E) (i : ℕ) (e : E) → i < length others
      → e ≡ get_or others i e → same_id id (names e).id ≡ true
      → is_among id (map names (drop i others)) ≡ true
  among_here id others i e below is h =
      rw (drop_more others i e below) (ap (λ (x : E). is_among id (names x ∷ map names (drop (i + 1) others))) (sym is)
      ∙ rw h refl)

  pub among_behind : (id : List ℕ) (others : List E) (i : ℕ) (e : E) → i < length others
      → e ≡ get_or others i e → same_id id (names e).id ≡ false
      → is_among id (map names (drop (i + 1) others)) ≡ is_among id (map names (drop i others))
  among_behind id others i e below is h =
      sym (ap (λ (xs : List E). is_among id (map names xs)) (drop_more others i e below)
      ∙ ap (λ (x : E). is_among id (names x ∷ map names (drop (i + 1) others))) (sym is)
      ∙ rw h refl)
