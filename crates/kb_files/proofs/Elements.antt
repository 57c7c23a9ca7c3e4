-- The elements of an array, seen as data.
use Rattle.std.proofs.Common.{◌≡◌, List, [], ◌∷◌, refl, ap}
use Rattle.serde_json.specs.Data.{Data}
use Rattle.serde_json.specs.View.{items_of}
use Rattle.kb_jsonc.specs.Parts.{listed}

pub elements_view : (ds : List Data) → listed (items_of ds) ≡ ds
elements_view [] = refl
elements_view (d ∷ ds) = ap (λ (rest : List Data). d ∷ rest) (elements_view ds)
