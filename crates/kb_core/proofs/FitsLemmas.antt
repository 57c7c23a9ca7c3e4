-- Lemmas on arguments that fit, among them those that were read.
use Rattle.std.proofs.Common.{◌≡◌, List, [], ◌∷◌, length, Bool, true, false, refl, ap, suc, ◌&&◌}
use Rattle.kb_core.specs.declared.arg.Arg.{Arg}
use Rattle.kb_core.specs.declared.parameter.Param.{Param}
use Rattle.kb_core.specs.Arg.{is_of}
use Rattle.kb_core.specs.Signature.{fits}

both-false : (b c : Bool) → false ≡ c → false ≡ (b && c)
both-false true c h = h
both-false false c h = refl

-- lists of other lengths don't fit
pub fits-lengths : (ps : List Param) (args : List Arg) → (length ps ≡ length args → ⊥) → false ≡ fits ps args
fits-lengths [] [] h = absurd (h refl)
fits-lengths [] (a ∷ rest) h = refl
fits-lengths (p ∷ ps) [] h = refl
fits-lengths (p ∷ ps) (a ∷ rest) h = both-false (is_of p.kind a) _ (fits-lengths ps rest (λ e. h (ap suc e)))
