-- Arguments of another number than the parameters don't fit, and no native has more than 8 parameters.
use Rattle.std.proofs.Common.{◌≡◌, List, [], ◌∷◌, length, Bool, true, false, refl, sym, ap, ◌∙◌, suc}
use Rattle.std.proofs.Common.{◌&&◌, map}
use Rattle.std.proofs.lemmas.List.{length-map}
use Rattle.kb_core.specs.declared.arg.Arg.{Arg}
use Rattle.kb_core.specs.declared.parameter.Param.{Param}
use Rattle.kb_core.specs.Arg.{is_of}
use Rattle.kb_core.specs.Signature.{fits}

both_false : (b c : Bool) → false ≡ c → false ≡ (b && c)
both_false true c h = h
both_false false c h = refl

pub other_lengths : (ps : List Param) (args : List Arg) → (length ps ≡ length args → ⊥) → false ≡ fits ps args
other_lengths [] [] h = absurd (h refl)
other_lengths [] (a ∷ rest) h = refl
other_lengths (p ∷ ps) [] h = refl
other_lengths (p ∷ ps) (a ∷ rest) h = both_false (is_of p.kind a) _ (other_lengths ps rest (λ e. h (ap suc e)))

-- the same for lists that are mapped
pub other_lengths_seen : {X Y : Type 0} (f : X → Param) (g : Y → Arg) (xs : List X) (ys : List Y)
    → (length xs ≡ length ys → ⊥) → false ≡ fits (map f xs) (map g ys)
other_lengths_seen f g xs ys h =
    other_lengths (map f xs) (map g ys) (λ e. h (sym (length-map xs f) ∙ e ∙ length-map ys g))

pub other_lengths_of : {Y : Type 0} (g : Y → Arg) (ps : List Param) (ys : List Y)
    → (length ps ≡ length ys → ⊥) → false ≡ fits ps (map g ys)
other_lengths_of g ps ys h = other_lengths ps (map g ys) (λ e. h (e ∙ length-map ys g))

pub other_lengths_in : {X : Type 0} (f : X → Param) (xs : List X) (args : List Arg)
    → (length xs ≡ length args → ⊥) → false ≡ fits (map f xs) args
other_lengths_in f xs args h = other_lengths (map f xs) args (λ e. h (sym (length-map xs f) ∙ e))
